use Rattle.rules.specs.Job.{laid_out}
use Rattle.job.proofs.laid_out.Goals as goal

pub returns : goal.returns
unfolding laid_out
returns c = cc
