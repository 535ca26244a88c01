-- What the neighbour list means. Whatever comes after the list rests on this alone, and never on how the list was found.
use Rattle.std.specs.Prelude.{◌≡◌, List, ℕ, ◌+◌, ◌*◌, ◌≤◌, ◌<◌, length, get_or}
use Rattle.std.proofs.Common.{arith}
use Rattle.rules.specs.Table.{across}
use Rattle.rules.specs.Job.{most_rows}
use Rattle.rules.specs.Reading.Closed.{Paired, Closed, across_below}
use Rattle.table.specs.Rows.{rows_in, table_in, RisingRows}

-- Rows below V that keep rules 5 to 7, and words at whose front the list stands: for each row and left-out corner the row across.
pub record Ground (bytes neighbours : List ℕ) (ids : ℕ) : Type 0 where
  pub few : rows_in bytes ≤ most_rows
  pub paired : Paired (table_in bytes) ids
  pub room : 4 * rows_in bytes ≤ length neighbours
  pub at : (r c : ℕ) → r < rows_in bytes → c < 4 → get_or neighbours (4 * r + c) 0 ≡ across (table_in bytes) r c

-- for some V
abbrev pub Grounded : List ℕ → List ℕ → Type 0
Grounded bytes neighbours = (ids : ℕ) × Ground bytes neighbours ids

-- and the edge and vertex rules: what growing rests on
abbrev pub ClosedGround : List ℕ → List ℕ → Type 0
ClosedGround bytes neighbours = (ids : ℕ) × Ground bytes neighbours ids × Closed (table_in bytes) ids

module _ {bytes neighbours : List ℕ} {ids : ℕ} (ground : Ground bytes neighbours ids) where
  pub rising_rows : RisingRows bytes
  rising_rows = record { few = ground.few; rise = ground.paired.rising }

  module _ (r c : ℕ) (l : r < rows_in bytes) (m : c < 4) where
    pub neighbour_below : get_or neighbours (4 * r + c) 0 < rows_in bytes
    neighbour_below = rw (ground.at r c l m) (across_below ground.paired r c l m)

    pub neighbour_listed : 4 * r + c < length neighbours
    neighbour_listed = omega (arith, ground.room)
