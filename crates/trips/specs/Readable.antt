-- The files that the reader takes.
use Rattle.std.specs.Prelude.{◌≡◌, false, ◌||◌, ◌↔◌, List, ℕ, ◌+◌, ◌*◌, ◌≤◌, ◌<◌, eqb, ltb, length, take}
use Rattle.std.proofs.Common.{ap, arith}
use Rattle.std.proofs.Math.Bool.{not}
use borrow.Author.Tests.{eqb-true, eq-eqb, ltb-false, le-ltb, not-false}
use Rattle.rules.specs.Words.{word}
use Rattle.rules.specs.Stl.{most_facets, file_length, header, facet_at, count_in, ill_sized, bits_at, units_of}
use Rattle.rules.specs.Laws.Truth.{or_no_first, or_no_second, or_neither}
use Rattle.grid.specs.Named.{Names}

-- a zero normal, a zero u16, and nine numbers of the grid
pub record Sound (bytes : List ℕ) (f : ℕ) : Type 0 where
  pub normal : word 12 bytes (facet_at f) ≡ 0
  pub attribute : word 2 bytes (facet_at f + 48) ≡ 0
  pub numbers : (k : ℕ) → k < 9 → Names (bits_at bytes f k) (units_of (bits_at bytes f k))

-- the length that the count asks for, at most 4,096 facets, the header, room for nine numbers a facet, and every facet sound
pub record Readable (bytes : List ℕ) (room : ℕ) : Type 0 where
  pub long : length bytes ≡ file_length (count_in bytes)
  pub few : count_in bytes ≤ most_facets
  pub headed : take 80 bytes ≡ header
  pub roomy : 9 * count_in bytes ≤ room
  pub sound : (f : ℕ) → f < count_in bytes → Sound bytes f

-- the length is what the count asks for, so never under 84
pub sized_exactly : (bytes : List ℕ) → (ill_sized bytes ≡ false) ↔ ((length bytes ≡ file_length (count_in bytes)) × (count_in bytes ≤ most_facets))
unfolding ill_sized
sized_exactly bytes =
    let short = ltb (length bytes) 84 in
    let many = ltb most_facets (count_in bytes) in
    let same = eqb (length bytes) (file_length (count_in bytes)) in (
      λ e. (
        eqb-true (length bytes) (file_length (count_in bytes)) (not-false same (or_no_second (short || many) (not same) e)),
        ltb-false most_facets (count_in bytes) (or_no_second short many (or_no_first (short || many) (not same) e)),
      ),
      λ (long, few). or_neither
          (or_neither (le-ltb (length bytes) 84 (omega arith)) (le-ltb most_facets (count_in bytes) few))
          (ap not (eq-eqb (length bytes) (file_length (count_in bytes)) long)),
    )
