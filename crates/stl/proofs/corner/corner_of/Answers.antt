use Rattle.std.proofs.Common.{ap, ◌∙◌, to_z-of_z}
use Rattle.rules.specs.Stl.{metres}
use Rattle.stl.specs.Corners.{corner}
use Rattle.stl.proofs.corner.corner_of.Goals as goal

pub returns : goal.returns
unfolding corner
returns c =
    rw (
      c.metres_of.ensures ∙ ap metres (to_z-of_z c.ranges.x),
      c.metres_of-2.ensures ∙ ap metres (to_z-of_z c.ranges.y),
      c.metres_of-3.ensures ∙ ap metres (to_z-of_z c.ranges.z),
    )
