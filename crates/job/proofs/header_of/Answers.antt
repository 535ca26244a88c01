use Rattle.rules.specs.Job.{header_of}
use Rattle.job.proofs.header_of.Goals as goal

pub returns : goal.returns
unfolding header_of
returns c = cc
