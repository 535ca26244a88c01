use Rattle.std.proofs.Common.{arith}
use Rattle.tallies.specs.Counted.{counted_none, counted_all}
use Rattle.tallies.proofs.count_rows.Goals as goal

pub loop-row-init : goal.loop-row-init
loop-row-init c = counted_none c.requires c.tallies_at-first.ensures c.clear.ensures

pub returns : goal.returns
returns c = counted_all _ _ _ _ c.loop-row.invariant (omega arith) (omega (arith, c.loop-row-test.false))
