use Rattle.std.proofs.Common.{ℕ, ◌*◌, ◌-◌}
use Rattle.table.specs.Rows.{table_in, rows_in}
use Rattle.table.specs.Walk.{Walked}
use Rattle.table.specs.Faces.{first_of, each_of}
use Rattle.table.proofs.chains.Chains.like_onward.Given as goal

abbrev pub invariant-loop-q : goal.invariant-loop-q
invariant-loop-q l = (other : ℕ) × Walked (table_in l.rows) (first_of l.kind) (each_of l.kind) l.place l.q l.count other

abbrev pub decreases-loop-q : goal.decreases-loop-q
decreases-loop-q l = each_of l.kind * rows_in l.rows - l.q
