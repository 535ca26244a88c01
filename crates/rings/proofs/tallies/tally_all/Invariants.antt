use Rattle.std.proofs.Common.{◌*◌}
use Rattle.rings.specs.Tallies.{Tallies}
use Rattle.rings.proofs.tallies.tally_all.Given as goal

abbrev pub invariant-loop-row : goal.invariant-loop-row
invariant-loop-row l = Tallies l.marked.table.rows.now l.marked.marks.now (4 * l.row) l.tallies
