use Rattle.track_stl.specs.Corners.{id_corner}
use Rattle.track_stl.proofs.corners.corner_in.Goals as goal

pub returns : goal.returns
unfolding id_corner
returns c = c.corner_at.ensures
