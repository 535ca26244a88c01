use Rattle.std.proofs.Common.{◌*◌}
use Rattle.table.specs.Chains.{Threaded}
use Rattle.table.specs.Faces.{key_of}
use Rattle.table.specs.Places.{face_at}
use Rattle.table.specs.Rows.{table_in, rows_in}
use Rattle.table.specs.Faces.{first_of, each_of}
use Rattle.table.proofs.chains.Chains.thread.Given as goal

abbrev pub invariant-loop-place : goal.invariant-loop-place
invariant-loop-place l = Threaded (λ p. key_of (face_at (table_in l.rows) (first_of l.kind) (each_of l.kind) p)) (each_of l.kind * rows_in l.rows) l.place l.self.head l.self.next
