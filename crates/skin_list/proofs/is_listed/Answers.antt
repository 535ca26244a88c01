use Rattle.std.proofs.Common.{le_trans, ◌∙◌}
use Rattle.skin.specs.Between.{between_skin}
use Rattle.table.specs.Ground.{neighbour_listed, neighbour_below}
use Rattle.table.specs.Tested.{grounded_of}
use Rattle.skin_list.proofs.is_listed.Goals as goal

pub is_between-requires : goal.is_between-requires
is_between-requires c =
    let on_ground = (grounded_of c.args.table.tested).1 in
    let (l, m, room) = c.requires in
    (neighbour_listed on_ground _ _ l m, le_trans l room, le_trans (neighbour_below on_ground _ _ l m) room)

pub returns-then-is_inside : goal.returns-then-is_inside
returns-then-is_inside c =
    let (l, m, room) = c.requires in
    rw (← c.is_inside.ensures, c.if-is_inside.true) (c.is_between.ensures ∙ between_skin (grounded_of c.args.table.tested).1 _ _ l m _)
