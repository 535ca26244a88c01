use Rattle.std.proofs.Common.{◌≡◌}
use Rattle.table.specs.Rows.{table_in}
use Rattle.tallies.specs.Steps.{step_row}
use Rattle.tallies.proofs.step_row.Given as goal

abbrev pub invariant-loop-corner : goal.invariant-loop-corner
invariant-loop-corner l = l.work ≡ step_row (table_in l.rows) l.first l.up l.row l.corner l.initial.work
