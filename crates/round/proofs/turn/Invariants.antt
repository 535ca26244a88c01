use Rattle.std.proofs.Common.{◌-◌}
use Rattle.round.specs.Edge.{Turning}
use Rattle.rules.specs.Proposals.{inside_in}
use Rattle.table.specs.Rows.{table_in, rows_in}
use Rattle.round.proofs.turn.Given as goal

abbrev pub invariant-loop-next : goal.invariant-loop-next
invariant-loop-next l = Turning (table_in l.table.rows.now) (inside_in l.marks) l.edge.a l.edge.b l.first l.second l.steps l.at l.next

abbrev pub decreases-loop-next : goal.decreases-loop-next
decreases-loop-next l = rows_in l.table.rows.now - l.steps
