use Rattle.table.specs.Holders.{Spreading}
use Rattle.table.proofs.flood.spread.Given as goal

abbrev pub invariant-loop-corner : goal.invariant-loop-corner
invariant-loop-corner l = Spreading l.table.rows.now l.a l.b l.start l.k l.i l.x l.corner l.flood.stamp l.flood.queue l.flood.tail
