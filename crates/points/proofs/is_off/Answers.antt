use Rattle.rules.specs.Outward.{off_grid}
use Rattle.points.proofs.is_off.Goals as goal

pub returns : goal.returns
unfolding off_grid
returns c = rw (c.on_grid.ensures, c.at_origin.ensures, c.point_at-p.ensures)
