use Rattle.std.proofs.Common.{ap, ◌∙◌, true}
use Rattle.rules.specs.Job.{written}
use Rattle.table.specs.Tested.{ground_of}
use Rattle.track_stl.specs.Skins.{listed_as, listed_again, may_put, file_put}
use Rattle.skin_list.specs.Orders.{order_asked}
use mathlib.Core.List.{flatten}
use Rattle.track_stl.proofs.put_listed.Goals as goal

pub put_triangles-requires : goal.put_triangles-requires
put_triangles-requires c =
    let placed = c.args.placed in
    let (many, below, few) = may_put placed.table.rows.now c.args.marks.now placed.points.now placed.table.neighbours.now placed.ids (ground_of placed.table.tested placed.tested.0)
    c.args.triangles.now c.requires.1 c.list_skin-count.ensures.0 c.list_skin-count.ensures.1 in
    (many, below, few, rw c.list_skin-count.ensures.0 c.requires.3)

pub returns : goal.returns
returns c =
    let placed = c.args.placed in
    let on_ground = ground_of placed.table.tested placed.tested.0 in
    let rows = placed.table.rows.now in
    let marks = c.args.marks.now in
    let points = placed.points.now in
    let work = placed.table.neighbours.now in
    let triangles = c.args.triangles.now in
    let order = c.of-order.ensures in (
      (rw (order.0, order_asked _ c.args.asked _ order.1) at c.list_skin.ensures.1) ∙ ap (written (flatten (listed_as c.args.asked rows marks points))) c.list_skin-count.ensures.1
          ∙ listed_again rows marks points work placed.ids on_ground triangles c.requires.1 c.args.asked true c.requires.2,
      file_put rows marks points work placed.ids on_ground triangles c.requires.1 c.list_skin-count.ensures.0 c.list_skin-count.ensures.1 c.args.file.now c.put_triangles.ensures,
    )
