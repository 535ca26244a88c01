use Rattle.std.proofs.Common.{◌*◌, ◌-◌}
use Rattle.table.specs.Holders.{FloodingRows}
use Rattle.table.proofs.flood.reached_from.Given as goal

abbrev pub invariant-loop-i : goal.invariant-loop-i
invariant-loop-i l = FloodingRows l.table.rows.now l.a l.b l.start l.k l.flood.stamp l.flood.queue (4 * l.i) l.flood.tail

abbrev pub decreases-loop-i : goal.decreases-loop-i
decreases-loop-i l = 2048 - l.i
