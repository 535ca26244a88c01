use Rattle.std.proofs.Common.{arith}
use Rattle.table.specs.Holders.{rows_begin, few_reached, rows_end}
use Rattle.table.specs.Tested.{grounded_of}
use Rattle.table.proofs.flood.reached_from.Goals as goal

pub loop-i-init : goal.loop-i-init
loop-i-init c =
    rw (c.begin.ensures.0, c.begin.ensures.1, c.begin.ensures.2) (rows_begin (grounded_of c.args.table.tested).1 _ _ _ _ c.args.flood.now.stamp c.args.flood.now.queue c.requires.0 c.requires.1 c.args.flood.now.room.0 c.args.flood.now.room.1 c.requires.2)

pub loop-i-smaller : goal.loop-i-smaller
loop-i-smaller c = omega (arith, c.loop-i-test.true, few_reached (grounded_of c.args.table.tested).1 _ _ _ _ c.loop-i.invariant)

pub returns : goal.returns
returns c = let ends = rows_end (grounded_of c.args.table.tested).1 _ _ _ _ c.loop-i.invariant c.requires.0 c.requires.1 (omega (arith, c.loop-i-test.false)) in (ends.0, ends.3)

pub overflow_add-i : goal.overflow_add-i
overflow_add-i c = omega (arith, c.loop-i-test.true, few_reached (grounded_of c.args.table.tested).1 _ _ _ _ c.loop-i.invariant)
