use Rattle.std.proofs.Common.{arith}
use Rattle.table.specs.Holders.{next_below, next_room, spread_turn}
use Rattle.table.specs.Tested.{grounded_of}
use Rattle.table.proofs.flood.leave_by.Goals as goal

pub bounds-flood-y : goal.bounds-flood-y
bounds-flood-y c =
    omega (arith, (grounded_of c.args.table.tested).1.few, next_below (grounded_of c.args.table.tested).1 _ _ _ _ _ _ _ c.requires.0 c.requires.1 c.across-across.ensures c.leaves.ensures c.choose-y.ensures)

pub offset_bounds-flood-y : goal.offset_bounds-flood-y
offset_bounds-flood-y c =
    omega (arith, (grounded_of c.args.table.tested).1.few, next_below (grounded_of c.args.table.tested).1 _ _ _ _ _ _ _ c.requires.0 c.requires.1 c.across-across.ensures c.leaves.ensures c.choose-y.ensures)

pub visit-requires : goal.visit-requires
visit-requires c =
    (omega (arith, (grounded_of c.args.table.tested).1.few, next_below (grounded_of c.args.table.tested).1 _ _ _ _ _ _ _ c.requires.0 c.requires.1 c.across-across.ensures c.leaves.ensures c.choose-y.ensures), next_room (grounded_of c.args.table.tested).1 _ _ _ _ _ _ _ c.requires.0 c.requires.1 c.across-across.ensures c.leaves.ensures c.choose-y.ensures)

pub returns : goal.returns
returns c =
    spread_turn (grounded_of c.args.table.tested).1 _ _ _ _ _ _ _ c.requires.0 c.requires.1 c.across-across.ensures c.leaves.ensures c.choose-y.ensures c.visit.ensures.0 c.visit.ensures.1 c.visit.ensures.2
