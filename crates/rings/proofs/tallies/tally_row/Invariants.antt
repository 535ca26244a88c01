use Rattle.std.proofs.Common.{◌*◌, ◌≤◌}
use Rattle.rings.specs.Tallies.{Tallies}
use Rattle.rings.proofs.tallies.tally_row.Given as goal

abbrev pub invariant-loop-place : goal.invariant-loop-place
invariant-loop-place l = (4 * l.row ≤ l.place) × Tallies l.marked.table.rows.now l.marked.marks.now l.place l.tallies
