use Rattle.std.proofs.Common.{arith}
use Rattle.points.specs.Sides.{far_found}
use Rattle.table.specs.Tested.{ground_of}
use Rattle.rules.specs.Reading.Closed.{across_below}
use Rattle.std.proofs.Common.{◌∙◌, sym}
use Rattle.points.proofs.placed.Placed.far_id.Goals as goal

pub id_sum-requires : goal.id_sum-requires
id_sum-requires c = let on_ground = ground_of c.args.self.table.tested c.args.self.tested.0 in let few = c.args.self.tested.1 in let (l, m) = c.requires in rw c.across.ensures (across_below on_ground.paired _ _ l m)

pub overflow_add-result : goal.overflow_add-result
overflow_add-result c =
    let on_ground = ground_of c.args.self.table.tested c.args.self.tested.0 in let few = c.args.self.tested.1 in let (l, m) = c.requires in
    omega (arith, far_found on_ground few _ _ l m (c.across.ensures ∙ sym (on_ground.at _ _ l m)) c.id_sum.ensures c.id_at.ensures)

pub overflow_sub-result : goal.overflow_sub-result
overflow_sub-result c =
    let on_ground = ground_of c.args.self.table.tested c.args.self.tested.0 in let few = c.args.self.tested.1 in let (l, m) = c.requires in
    omega (arith, far_found on_ground few _ _ l m (c.across.ensures ∙ sym (on_ground.at _ _ l m)) c.id_sum.ensures c.id_at.ensures)

pub returns : goal.returns
returns c =
    let on_ground = ground_of c.args.self.table.tested c.args.self.tested.0 in let few = c.args.self.tested.1 in let (l, m) = c.requires in
    omega (arith, far_found on_ground few _ _ l m (c.across.ensures ∙ sym (on_ground.at _ _ l m)) c.id_sum.ensures c.id_at.ensures)
