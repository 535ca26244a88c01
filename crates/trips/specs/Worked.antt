-- Numbers off the grid and on it, by their bits, and the file of the empty list. The three calls of request (vi), worked:
-- `proofs.Written` the facet writer, `proofs.Read` the reader, `Worked.Skin` the job's writer.
pub mod Skin
use Rattle.std.specs.Prelude.{◌≡◌, refl, Bool, true, false, not, ◌&&◌, List, [], ◌∷◌, ◌++◌, ℕ, zero, suc, ◌<◌, eqb, ℤ, pos, neg_ℤ, length, get_or, replicate}
use Rattle.std.proofs.Common.{ap, not-suc-le-zero, le_of_suc-le-suc, arith}
use Rattle.std.specs.Float.Ieee.{div, of_int, of_bits, to_bits}
use Rattle.std.proofs.lemmas.Bool.{not-true}
use Rattle.rules.specs.Below.{all, gather}
use Rattle.rules.specs.Points.{in_range}
use Rattle.rules.specs.Stl.{metres, bits_of, header, facets_of, file_of, grid_number, written_for, bits_off, units_of}
use Rattle.rules.specs.Laws.Truth.{and_first, and_second}
use Rattle.rules.specs.Laws.Below.{all_each, none_any}
use Rattle.grid.specs.Named.{named_on}

-- ---- how files are written down

-- `track skin` in ASCII, and 70 zeros
abbrev pub top : List ℕ
top = 116 ∷ 114 ∷ 97 ∷ 99 ∷ 107 ∷ 32 ∷ 115 ∷ 107 ∷ 105 ∷ 110 ∷ replicate 70 0

-- the bytes of a count or of a number
abbrev pub four : ℕ → ℕ → ℕ → ℕ → List ℕ
four a b c d = a ∷ b ∷ c ∷ d ∷ []

-- units below zero
abbrev pub minus : ℕ → ℤ
minus n = neg_ℤ (pos n)

-- ---- off the grid: one computed test over its 2,047 numbers

-- b is none of these
abbrev unlike : List ℕ → ℕ → Bool
unlike [] b = true
unlike (bits ∷ others) b = not (eqb bits b) && unlike others b

abbrev astray : List ℕ
astray = 0x8000_0000 ∷ 0x7fc0_0000 ∷ 0x7f80_0001 ∷ 0x7f80_0000 ∷ 0xff80_0000 ∷ 0x3d00_0000 ∷ 0x4280_0000 ∷ 0x0000_0001 ∷ []

swept : all 2047 (λ k. unlike astray (bits_of (grid_number k))) ≡ true
unfolding all metres bits_of grid_number div of_int of_bits to_bits
swept = refl

unlike_each : (list : List ℕ) (b : ℕ) → unlike list b ≡ true → (i : ℕ) → i < length list → eqb (get_or list i 0) b ≡ false
unlike_each [] b t i l = absurd (not-suc-le-zero l)
unlike_each (bits ∷ others) b t zero l = not-true (eqb bits b) (and_first (not (eqb bits b)) (unlike others b) t)
unlike_each (bits ∷ others) b t (suc i) l = unlike_each others b (and_second (not (eqb bits b)) (unlike others b) t) i (le_of_suc-le-suc l)

astray_off : (i : ℕ) → i < 8 → bits_off (get_or astray i 0) ≡ true
unfolding bits_off
astray_off i l =
    ap not (none_any 2047 (written_for (get_or astray i 0)) (λ k m.
    unlike_each astray (bits_of (grid_number k)) (all_each 2047 (λ j. unlike astray (bits_of (grid_number j))) swept k m) i l))

pub minus_zero_off : bits_off 0x8000_0000 ≡ true
minus_zero_off = astray_off 0 (omega arith)

pub quiet_nan_off : bits_off 0x7fc0_0000 ≡ true
quiet_nan_off = astray_off 1 (omega arith)

pub signalling_nan_off : bits_off 0x7f80_0001 ≡ true
signalling_nan_off = astray_off 2 (omega arith)

pub infinity_off : bits_off 0x7f80_0000 ≡ true
infinity_off = astray_off 3 (omega arith)

pub minus_infinity_off : bits_off 0xff80_0000 ≡ true
minus_infinity_off = astray_off 4 (omega arith)

-- half a unit: 1/32
pub half_unit_off : bits_off 0x3d00_0000 ≡ true
half_unit_off = astray_off 5 (omega arith)

-- 1024 units: 64
pub past_most_off : bits_off 0x4280_0000 ≡ true
past_most_off = astray_off 6 (omega arith)

-- the least number above zero
pub denormal_off : bits_off 0x0000_0001 ≡ true
denormal_off = astray_off 7 (omega arith)

-- ---- on the grid

-- these bits are read as so many units
abbrev pub ReadAs : ℕ → ℤ → Type 0
ReadAs bits u = (bits_off bits ≡ false) × (units_of bits ≡ u)

pub zero_read : ReadAs 0 (pos 0)
unfolding in_range metres bits_of div of_int of_bits to_bits
zero_read = named_on 0 (pos 0) (refl, refl)

pub one_read : ReadAs 0x3d80_0000 (pos 1)
unfolding in_range metres bits_of div of_int of_bits to_bits
one_read = named_on 0x3d80_0000 (pos 1) (refl, refl)

pub minus_one_read : ReadAs 0xbd80_0000 (minus 1)
unfolding in_range metres bits_of div of_int of_bits to_bits
minus_one_read = named_on 0xbd80_0000 (minus 1) (refl, refl)

pub most_read : ReadAs 0x427f_c000 (pos 1023)
unfolding in_range metres bits_of div of_int of_bits to_bits
most_read = named_on 0x427f_c000 (pos 1023) (refl, refl)

pub least_read : ReadAs 0xc27f_c000 (minus 1023)
unfolding in_range metres bits_of div of_int of_bits to_bits
least_read = named_on 0xc27f_c000 (minus 1023) (refl, refl)

-- ---- the file of the empty list: 84 bytes, the text `track skin` and zeros

pub empty_file : file_of [] ≡ top ++ four 0 0 0 0
unfolding header facets_of file_of gather
empty_file = refl
