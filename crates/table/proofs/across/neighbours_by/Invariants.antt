use Rattle.table.specs.Rows.{table_in}
use Rattle.table.specs.Triangles.{Listed}
use Rattle.table.proofs.across.neighbours_by.Given as goal

abbrev pub invariant-loop-place : goal.invariant-loop-place
invariant-loop-place l = Listed (table_in l.rows) l.place l.work l.initial.work
