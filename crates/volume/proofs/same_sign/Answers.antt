use Rattle.rules.specs.Points as R
use Rattle.volume.specs.Bound.{whole}
use Rattle.volume.proofs.same_sign.Goals as goal

pub returns : goal.returns
unfolding R.same_sign R.below_zero R.above_zero
returns c = rw (whole c.ranges.m, whole c.ranges.n)
