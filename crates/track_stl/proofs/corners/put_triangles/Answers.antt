use Rattle.rules.specs.Points.{point_in}
use Rattle.stl.specs.Filling.{fill_begins, fill_turn, fill_ends}
use Rattle.track_stl.specs.Corners.{triangle_facet, triangle_fifty}
use Rattle.track_stl.proofs.corners.put_triangles.Goals as goal

pub loop-k-init : goal.loop-k-init
loop-k-init c =
    let at = point_in c.args.placed.points.now in
    let ids = c.args.triangles.now in
    fill_begins c.args.count (triangle_facet at ids) (triangle_fifty at ids) c.args.file.now c.requires.3 c.put_front.ensures

pub loop-k-preserved : goal.loop-k-preserved
loop-k-preserved c =
    let at = point_in c.args.placed.points.now in
    let ids = c.args.triangles.now in
    fill_turn c.args.count (triangle_facet at ids) (triangle_fifty at ids) c.loop-k.invariant c.loop-k-test.true c.put_triangle.ensures

pub returns : goal.returns
returns c =
    let at = point_in c.args.placed.points.now in
    let ids = c.args.triangles.now in
    fill_ends c.args.count (triangle_facet at ids) (triangle_fifty at ids) c.args.file.now c.put_front.ensures c.loop-k.invariant c.loop-k-test.false
