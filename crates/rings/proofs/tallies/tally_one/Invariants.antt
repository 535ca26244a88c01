use Rattle.rings.specs.Tallies.{Tallied}
use Rattle.rings.proofs.tallies.tally_one.Given as goal

abbrev pub invariant-loop-place : goal.invariant-loop-place
invariant-loop-place l = Tallied l.marked.table.rows.now l.marked.marks.now l.vertex l.place l.count l.last
