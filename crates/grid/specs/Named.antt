-- Bits are read as u units exactly if they are the ones that are written for u.
use Rattle.std.specs.Prelude.{◌≡◌, ℕ, ◌^◌, ◌<◌, Bool, true, false, ◌↔◌, ℤ, pos, ◌≢◌, from_bits, refl}
use Rattle.std.proofs.Common.{sym, ap, ◌∙◌, subst, lt_irrefl, arith, eqb-true, eq-eqb}
use Rattle.std.proofs.Math.Option.{Option, some, get_or}
use Rattle.std.specs.Float.{binary32}
use Rattle.std.specs.Float.Ieee.{of_int}
use Rattle.std.specs.Float.Ieee.Bits.{to_bits-lt}
use Rattle.std.specs.Float.Ieee.Fits.{div-fits}
use Rattle.std.proofs.lemmas.Bool.{not-true, not-false}
use Rattle.rules.specs.Below.{any, lowest}
use Rattle.rules.specs.Points.{grid_most, in_range}
use Rattle.rules.specs.Stl.{metres, bits_of, grid_number, written_for, bits_off, units_of}
use Rattle.rules.specs.Laws.Truth.{is_false}
use Rattle.rules.specs.Laws.Below.{is_lowest, lowest_is, none_lowest, any_here, any_some, any_none}
use Rattle.grid.specs.Sweep.{place, place_number, number_in_range, numbered}
use Rattle.grid.specs.Exact.{bits_one}

-- these bits are written for so many units of the grid
abbrev pub Names : ℕ → ℤ → Type 0
Names bits u = (in_range u ≡ true) × (bits ≡ bits_of u)

-- they are written for that number of the grid and for no lower one
lowest_named : (bits : ℕ) (u : ℤ) → Names bits u → lowest 2047 (written_for bits) ≡ some (place u)
lowest_named bits u (on, e) =
    let (l, same) = numbered u on in
    is_lowest 2047 (written_for bits) (place u) (record {
      below = l;
      passes = eq-eqb bits (bits_of (grid_number (place u))) (e ∙ ap bits_of (sym same));
      first = λ j m. is_false (written_for bits j) (λ t.
          let named : grid_number j ≡ u = bits_one (grid_number j) u (number_in_range j (omega arith)) on (sym (eqb-true bits (bits_of (grid_number j)) t) ∙ e) in
          lt_irrefl (place u) (subst (λ (i : ℕ). i < place u) (sym (place_number j) ∙ ap place named) m));
    })

pub named_on : (bits : ℕ) (u : ℤ) → Names bits u → (bits_off bits ≡ false) × (units_of bits ≡ u)
unfolding bits_off units_of
named_on bits u n =
    let found = lowest_named bits u n in
    let low = lowest_is 2047 (written_for bits) (place u) found in (
      rw (any_here 2047 (written_for bits) (place u) low.below low.passes),
      ap (λ (o : Option ℕ). grid_number (get_or o grid_most)) found ∙ (numbered u n.0).1,
    )

pub not_off : (bits : ℕ) → bits_off bits ≡ false → Names bits (units_of bits)
unfolding bits_off
not_off bits h =
    let (k, l, t) = any_some 2047 (written_for bits) (not-false (any 2047 (written_for bits)) h) in
    let n : Names bits (grid_number k) = (number_in_range k l, eqb-true bits (bits_of (grid_number k)) t) in
    subst (Names bits) (sym (named_on bits (grid_number k) n).1) n

pub units_exactly : (bits : ℕ) (u : ℤ) → ((bits_off bits ≡ false) × (units_of bits ≡ u)) ↔ Names bits u
units_exactly bits u = (λ (h, e). subst (Names bits) e (not_off bits h), named_on bits u)

-- bits that are written for no number of the grid
pub off : (bits : ℕ) → ((u : ℤ) → Names bits u → ⊥) → bits_off bits ≡ true
off bits none = not_false' (bits_off bits) (λ h. none (units_of bits) (not_off bits h))
  where
    not_false' : (b : Bool) → (b ≢ false) → b ≡ true
    not_false' true h = refl
    not_false' false h = absurd (h refl)

-- bits that are written fill four bytes and no more
pub bits_small : (u : ℤ) → bits_of u < 256 ^ 4
unfolding bits_of metres
bits_small u = to_bits-lt binary32 (metres u) (div-fits binary32 (of_int binary32 u) (from_bits binary32 0x4180_0000))

-- they stand for no units
pub off_zero : (bits : ℕ) → bits_off bits ≡ true → units_of bits ≡ pos 0
unfolding bits_off units_of grid_number
off_zero bits h = ap (λ (o : Option ℕ). grid_number (get_or o grid_most)) (none_lowest 2047 (written_for bits) (any_none 2047 (written_for bits) (not-true (any 2047 (written_for bits)) h)))
