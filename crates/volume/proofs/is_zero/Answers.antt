use Rattle.volume.specs.Bound.{zero_stored}
use Rattle.volume.proofs.is_zero.Goals as goal

pub returns : goal.returns
returns c = zero_stored c.args.z c.ranges.z
