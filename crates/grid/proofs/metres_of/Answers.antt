use Rattle.std.proofs.Common.{to_z-of_z}
use Rattle.rules.specs.Stl.{metres}
use Rattle.grid.proofs.metres_of.Goals as goal

pub returns : goal.returns
unfolding metres
returns c = rw (to_z-of_z c.ranges.units)
