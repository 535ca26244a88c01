use Rattle.std.proofs.Common.{arith}
use Rattle.rings.specs.Tallies.{tally_begins, tally_few, tally_low, tally_more, one_small}
use Rattle.rings.proofs.tallies.tally_one.Goals as goal

pub loop-place-init : goal.loop-place-init
loop-place-init c = tally_begins _ _ _

pub overflow_add-count : goal.overflow_add-count
overflow_add-count c = omega (arith, tally_few c.loop-place.invariant, c.loop-place-test.true, c.row_count-place-end.ensures, c.args.marked.table.tested.0, one_small c.is_shown-on.result c.choose-count.ensures)

pub loop-place-preserved : goal.loop-place-preserved
loop-place-preserved c =
    tally_more c.loop-place.invariant c.is_shown-on.ensures (rw c.choose-count.ensures) c.choose-last.ensures

pub overflow_cast-result : goal.overflow_cast-result
overflow_cast-result c = omega (arith, tally_few c.loop-place.invariant, c.loop-place.auto.place-end, c.row_count-place-end.ensures, c.args.marked.table.tested.0)

pub overflow_cast-result-2 : goal.overflow_cast-result-2
overflow_cast-result-2 c = omega (arith, tally_low c.loop-place.invariant, c.loop-place.auto.place-end, c.row_count-place-end.ensures, c.args.marked.table.tested.0)
