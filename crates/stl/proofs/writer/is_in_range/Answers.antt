use Rattle.std.proofs.Common.{to_z-of_z}
use Rattle.rules.specs.Points.{in_range}
use Rattle.stl.proofs.writer.is_in_range.Goals as goal

pub returns : goal.returns
unfolding in_range
returns c = rw (to_z-of_z c.ranges.units)
