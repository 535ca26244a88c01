use Rattle.std.proofs.Common.{◌≡◌}
use Rattle.table.specs.Rows.{table_in}
use Rattle.tallies.specs.Counted.{counted}
use Rattle.tallies.proofs.count_rows.Given as goal

abbrev pub invariant-loop-row : goal.invariant-loop-row
invariant-loop-row l = l.work ≡ counted (table_in l.rows) l.ids l.marks l.row
