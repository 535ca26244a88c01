use Rattle.std.proofs.Common.{refl, arith}
use Rattle.round.specs.Edge.{turn_begins, turn_more, turn_few, turn_next, near_below, test_goes}
use Rattle.table.specs.Tested.{grounded_of}
use Rattle.round.proofs.turn.Goals as goal

pub loop-next-init : goal.loop-next-init
loop-next-init c = let given = c.requires in turn_begins (grounded_of c.args.table.tested).1.paired refl given.1 _ given.2 c.onward-start.ensures.0

pub is_inside-requires : goal.is_inside-requires
is_inside-requires c =
    let given = c.requires in omega (arith, given.0, near_below (grounded_of c.args.table.tested).1.paired refl given.1 _ _ c.loop-next.invariant.next.near)

pub onward-way-requires : goal.onward-way-requires
onward-way-requires c =
    let given = c.requires in
    (turn_next (grounded_of c.args.table.tested).1.paired refl given.1 _ given.2 c.loop-next.invariant).0.0

pub overflow_add-steps : goal.overflow_add-steps
overflow_add-steps c =
    let given = c.requires in
    omega (arith, turn_few (grounded_of c.args.table.tested).1.paired refl given.1 _ given.2 c.loop-next.invariant, (grounded_of c.args.table.tested).1.few)

pub loop-next-smaller : goal.loop-next-smaller
loop-next-smaller c =
    let given = c.requires in
    omega (arith, turn_few (grounded_of c.args.table.tested).1.paired refl given.1 _ given.2 c.loop-next.invariant)

pub loop-next-preserved : goal.loop-next-preserved
loop-next-preserved c =
    let given = c.requires in
    let (ne, side) = test_goes c.is_inside.ensures c.is_inside-side.ensures c.loop-next-test.true in
    turn_more (grounded_of c.args.table.tested).1.paired refl given.1 _ given.2 c.loop-next.invariant ne side c.onward-way.ensures.0 refl
