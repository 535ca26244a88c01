use Rattle.points.specs.Sides.{face_below, far_below, outer_way, finite_way}
use Rattle.rules.specs.Points.{below_zero, above_zero}
use Rattle.volume.specs.Bound.{back}
use Rattle.table.specs.Tested.{ground_of}
use Rattle.points.proofs.placed.Placed.right_way.Goals as goal

pub side_of-requires : goal.side_of-requires
side_of-requires c =
    let on_ground = ground_of c.args.self.table.tested c.args.self.tested.0 in let (l, m) = c.requires in
    (face_below _ on_ground.paired _ _ l m c.face-face.ensures, rw c.far_id-far.ensures (far_below _ on_ground.paired _ _ l m))

pub returns-then-outer : goal.returns-then-outer
unfolding above_zero
returns-then-outer c =
    let on_ground = ground_of c.args.self.table.tested c.args.self.tested.0 in let (l, m) = c.requires in
    let side = c.side_of.ensures in
    rw (back side.within tt)
    (outer_way _ _ _ _ m c.face-face.ensures c.is_outer-outer.ensures side.is c.if-outer.true c.far_id-far.ensures)

pub side_of-requires-2 : goal.side_of-requires-2
side_of-requires-2 c =
    let on_ground = ground_of c.args.self.table.tested c.args.self.tested.0 in let (l, m) = c.requires in
    (face_below _ on_ground.paired _ _ l m c.face-face.ensures, rw c.id_at.ensures (on_ground.paired.below _ l _ m))

pub returns : goal.returns
unfolding below_zero
returns c =
    let on_ground = ground_of c.args.self.table.tested c.args.self.tested.0 in let (l, m) = c.requires in
    let side = c.side_of-2.ensures in
    rw (back side.within tt)
    (finite_way _ _ _ _ m c.face-face.ensures c.is_outer-outer.ensures side.is c.if-outer.false c.id_at.ensures)
