use Rattle.std.proofs.Common.{◌≡◌}
use Rattle.std.proofs.Math.Option.{none}
use Rattle.rules.specs.Below.{lowest}
use Rattle.table.specs.Holders.{Scratch, unjoined_at}
use Rattle.table.specs.Rows.{table_in, rows_in}
use Rattle.table.specs.Faces.{first_of, each_of}
use Rattle.table.proofs.joined.broken_by.Given as goal

abbrev pub invariant-loop-place : goal.invariant-loop-place
invariant-loop-place l = (lowest l.place (unjoined_at (table_in l.table.rows.now) (first_of l.kind) (each_of l.kind)) ≡ none) × Scratch (rows_in l.table.rows.now) l.place l.flood.stamp
