use Rattle.std.proofs.Common.{◌-◌}
use Rattle.table.specs.Rows.{table_in}
use Rattle.table.specs.Walk.{Missed}
use Rattle.table.specs.Faces.{first_of, each_of}
use Rattle.table.proofs.chains.Chains.first_like.Given as goal

abbrev pub invariant-loop-q : goal.invariant-loop-q
invariant-loop-q l = Missed (table_in l.rows) (first_of l.kind) (each_of l.kind) l.place l.q

abbrev pub decreases-loop-q : goal.decreases-loop-q
decreases-loop-q l = l.place - l.q
