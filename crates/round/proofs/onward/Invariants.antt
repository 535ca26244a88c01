use Rattle.round.specs.Edge.{Sought}
use Rattle.table.specs.Rows.{table_in}
use Rattle.round.proofs.onward.Given as goal

abbrev pub invariant-loop-corner : goal.invariant-loop-corner
invariant-loop-corner l = Sought (table_in l.table.rows.now) l.edge.a l.edge.b l.from l.x l.corner l.row l.id
