use Rattle.std.proofs.Common.{refl}
use Rattle.rules.specs.Job.{asks_outward}
use Rattle.job.proofs.Header.asks_outward.Goals as goal

pub returns : goal.returns
unfolding asks_outward
returns c = refl
