use Rattle.std.proofs.Common.{ap, ◌∙◌}
use Rattle.grid.specs.Steps.{grid_fits, grid_wide, grid_cast}
use Rattle.rules.specs.Points.{on_grid}
use Rattle.track_stl.specs.Corners.{point_corner, each_in_range}
use Rattle.volume.specs.Meant.{meant}
use Rattle.track_stl.proofs.corners.corner_at.Goals as goal

-- Each coordinate of the point that was read is in range.

pub overflow_cast-p : goal.overflow_cast-p
overflow_cast-p c =
    let on = (each_in_range (meant c.point_at-p.result) (ap on_grid c.point_at-p.ensures ∙ c.args.placed.tested.3 c.args.id c.requires)).0 in
    rw (grid_wide _ on) (grid_fits _ on)

pub overflow_cast-p-2 : goal.overflow_cast-p-2
overflow_cast-p-2 c =
    let on = (each_in_range (meant c.point_at-p.result) (ap on_grid c.point_at-p.ensures ∙ c.args.placed.tested.3 c.args.id c.requires)).1 in
    rw (grid_wide _ on) (grid_fits _ on)

pub overflow_cast-p-3 : goal.overflow_cast-p-3
overflow_cast-p-3 c =
    let on = (each_in_range (meant c.point_at-p.result) (ap on_grid c.point_at-p.ensures ∙ c.args.placed.tested.3 c.args.id c.requires)).2 in
    rw (grid_wide _ on) (grid_fits _ on)

pub returns : goal.returns
unfolding point_corner
returns c =
    let (x, y, z) = each_in_range (meant c.point_at-p.result) (ap on_grid c.point_at-p.ensures ∙ c.args.placed.tested.3 c.args.id c.requires) in
    c.corner_of.ensures ∙ rw (grid_cast c.point_at-p.result.x x, grid_cast c.point_at-p.result.y y, grid_cast c.point_at-p.result.z z) (ap point_corner c.point_at-p.ensures)
