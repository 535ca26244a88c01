use Rattle.std.proofs.Common.{refl}
use Rattle.rules.specs.Job.{has_points}
use Rattle.job.proofs.Header.has_points.Goals as goal

pub returns : goal.returns
unfolding has_points
returns c = refl
