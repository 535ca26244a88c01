use Rattle.std.proofs.Common.{sym, ◌∙◌}
use Rattle.points.specs.Folded.{higher_asks, above_asked}
use Rattle.points.specs.Sides.{face_below, far_below}
use Rattle.table.specs.Tested.{ground_of}
use Rattle.std.proofs.Common.{sym}
use Rattle.points.proofs.placed.Placed.side_above.Goals as goal

pub returns-then-across-row : goal.returns-then-across-row
returns-then-across-row c =
    let on_ground = ground_of c.args.self.table.tested c.args.self.tested.0 in let (l, m, finite) = c.requires in
    sym (higher_asks on_ground _ _ _ l m (c.across.ensures ∙ sym (on_ground.at _ _ l m)) c.if-across-row.true)

pub same_side_of-requires : goal.same_side_of-requires
same_side_of-requires c =
    let on_ground = ground_of c.args.self.table.tested c.args.self.tested.0 in let (l, m, finite) = c.requires in (
      face_below _ on_ground.paired _ _ l m c.face-face.ensures,
      rw c.id_at.ensures (on_ground.paired.below _ l _ m),
      rw c.far_id-far.ensures (far_below _ on_ground.paired _ _ l m),
    )

pub returns : goal.returns
returns c =
    let on_ground = ground_of c.args.self.table.tested c.args.self.tested.0 in let (l, m, finite) = c.requires in
    c.same_side_of.ensures
    ∙ above_asked on_ground _ _ _ l m (c.across.ensures ∙ sym (on_ground.at _ _ l m)) finite c.if-across-row.false c.face-face.ensures c.id_at.ensures
    c.far_id-far.ensures
