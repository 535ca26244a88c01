-- What the code's steps rest on.
use Rattle.std.specs.Prelude.{◌≡◌, ℕ, zero, suc, ◌+◌, ◌-◌, ◌*◌, ◌/◌, ◌^◌, ◌<◌, ◌≤◌, min, Bool, true, false, not, ◌&&◌, T, ℤ, pos, negsuc, neg_ℤ, FitsSigned, ◌==◌, ◌≢◌, nat_le, nat_lt, refl, Ok, Err, Float}
use Rattle.std.proofs.Common.{sym, ap, ◌∙◌, subst, ⊎_elim, div-lt_iff_lt-mul, arith, to_z, of_z, eqb-true, ltb-true, le-leb, lt-ltb, leb-true}
use Rattle.std.proofs.Math.Nat.{min-le_left}
use Rattle.std.specs.Int.Signed.{mag}
use Rattle.std.specs.Int.{w16, w64}
use Rattle.std.proofs.lemmas.Int.{to_z-of_z}
use Rattle.std.specs.Float.{nan, inf, fin, binary32}
use Rattle.std.specs.Float.Ieee.{up, down, neg, le, lt, eq, of_bits, to_signed, is_nan}
use Rattle.std.specs.Float.Ieee.Exact.{HasValue}
use Rattle.std.specs.Float.Ieee.Fits.{down_pos}
use Rattle.rules.specs.Laws.Truth.{not_both, or_either, and_first, or_first}
use Rattle.rules.specs.Points.{in_range}
use Rattle.rules.specs.Stl.{bits_of}
use Rattle.grid.specs.Numbers.{stood, read}
use Rattle.grid.specs.Sweep.{times}
use Rattle.grid.specs.Exact.{comes_back}
use Rattle.grid.specs.Named.{Names, named_on, off}

pub finite_number : (x : Float) (s : Bool) (a c : ℕ) → HasValue x s a c → T (not (is_nan x))
unfolding is_nan
finite_number nan s a c h = h
finite_number (inf t) s a c h = tt
finite_number (fin t m e) s a c h = tt

pub is_nan_lem : (x : Float) → is_nan x ≡ true → x ≡ nan
unfolding is_nan
is_nan_lem nan h = refl
is_nan_lem (inf t) h = absurd (not_both h refl)
is_nan_lem (fin t m e) h = absurd (not_both h refl)

-- ---- the range: a float from -1023 to 1023 has a whole part, and that is on the grid

on_pos : (q : ℕ) → q ≤ 1023 → in_range (pos q) ≡ true
unfolding in_range
on_pos q l = le-leb q 1023 l

on_neg : (q : ℕ) → q ≤ 1023 → in_range (neg_ℤ (pos q)) ≡ true
unfolding in_range
on_neg zero l = refl
on_neg (suc q) l = rw (le-leb q 1022 (omega arith))

cut : (a d n : ℕ) → 0 < d → a ≤ 1023 * d → min (a / d) n ≤ 1023
cut a d n p l = let h : a / d < 1024 = (div-lt_iff_lt-mul p).1 (omega arith) in omega (arith, min-le_left (a / d) n)

pub record Small (y : Float) : Type 0 where
  pub low : T (le (fin true 1 (pos 63)) y)
  pub high : T (lt y (fin false 1 (pos 63)))
  pub on : in_range (to_signed 63 y) ≡ true

to_T : {b : Bool} → b ≡ true → T b
to_T e = subst T (sym e) tt

pub small : (y : Float) → le (neg (of_bits binary32 0x447f_c000)) y ≡ true → le y (of_bits binary32 0x447f_c000) ≡ true → Small y
unfolding le lt eq neg of_bits to_signed
small nan p q = absurd (not_both p refl)
small (inf true) p q = absurd (not_both p refl)
small (inf false) p q = absurd (not_both q refl)
small (fin true m e) p q =
    let l : m * up e ≤ 1023 * down e = ⊎_elim
    (λ t. omega (arith, ltb-true (m * up e * 1) (1023 * 1 * down e) t))
    (λ t. omega (arith, eqb-true (1023 * 1 * down e) (m * up e * 1) (and_first (1023 * 1 * down e == m * up e * 1) true t)))
    (or_either (nat_lt (m * up e * 1) (1023 * 1 * down e)) (1023 * 1 * down e == m * up e * 1 && true) p) in
    record {
      low = to_T (or_first (eq (fin true 1 (pos 63)) (fin true m e)) (lt-ltb (m * up e * 1) (1 * 2 ^ 63 * down e) (omega (arith, down_pos e))));
      high = to_T (lt-ltb 0 (m * up e * 1 + 1 * 2 ^ 63 * down e) (omega (arith, down_pos e)));
      on = on_neg (min (m * up e / down e) (2 ^ 63)) (cut (m * up e) (down e) (2 ^ 63) (down_pos e) l);
    }
small (fin false m e) p q =
    let l : m * up e ≤ 1023 * down e = ⊎_elim
    (λ t. omega (arith, ltb-true (m * up e * 1) (1023 * 1 * down e) t))
    (λ t. omega (arith, eqb-true (m * up e * 1) (1023 * 1 * down e) (and_first (m * up e * 1 == 1023 * 1 * down e) true t)))
    (or_either (nat_lt (m * up e * 1) (1023 * 1 * down e)) (m * up e * 1 == 1023 * 1 * down e && true) q) in
    record {
      low = to_T (or_first (eq (fin true 1 (pos 63)) (fin false m e)) (lt-ltb 0 (1 * 2 ^ 63 * down e + m * up e * 1) (omega (arith, down_pos e))));
      high = to_T (lt-ltb (m * up e * 1) (1 * 2 ^ 63 * down e) (omega (arith, down_pos e)));
      on = on_pos (min (m * up e / down e) (2 ^ 63 - 1)) (cut (m * up e) (down e) (2 ^ 63 - 1) (down_pos e) l);
    }

-- ---- what is read

pub reads_units : (bits facet : ℕ) (u : ℤ) → Names bits u → read bits facet ≡ Ok u
unfolding read
reads_units bits facet u n = let (on, same) = named_on bits u n in rw (on, same)

reads_off : (bits facet : ℕ) → ((u : ℤ) → Names bits u → ⊥) → read bits facet ≡ Err (stood bits facet)
unfolding read
reads_off bits facet none = rw (off bits none)

pub low_off : (bits facet : ℕ) → le (neg (of_bits binary32 0x447f_c000)) (times bits) ≡ false → read bits facet ≡ Err (stood bits facet)
low_off bits facet h = reads_off bits facet (λ u (on, e). not_both (subst (λ (b : ℕ). le (neg (of_bits binary32 0x447f_c000)) (times b) ≡ true) (sym e) (comes_back u on).above) h)

pub high_off : (bits facet : ℕ) → le (times bits) (of_bits binary32 0x447f_c000) ≡ false → read bits facet ≡ Err (stood bits facet)
high_off bits facet h = reads_off bits facet (λ u (on, e). not_both (subst (λ (b : ℕ). le (times b) (of_bits binary32 0x447f_c000) ≡ true) (sym e) (comes_back u on).below) h)

pub other_off : (bits facet : ℕ) → (bits_of (to_signed 63 (times bits)) ≢ bits) → read bits facet ≡ Err (stood bits facet)
other_off bits facet h = reads_off bits facet (λ u (on, e). h (ap (λ (b : ℕ). bits_of (to_signed 63 (times b))) e ∙ ap bits_of (comes_back u on).units ∙ sym e))

-- ---- grid units in an i16 and an i64

grid_mag : (z : ℤ) → in_range z ≡ true → mag z ≤ 1023
unfolding in_range
grid_mag (pos n) h = leb-true n 1023 h
grid_mag (negsuc n) h = omega (arith, leb-true n 1022 (and_first (nat_le n 1022) true h))

pub grid_fits : (z : ℤ) → in_range z ≡ true → FitsSigned w16 z
grid_fits z h = record { sfits = omega (arith, grid_mag z h) }

pub grid_wide : (z : ℤ) → in_range z ≡ true → to_z w64 (of_z w64 z) ≡ z
grid_wide z h = to_z-of_z w64 z (record { sfits = omega (arith, grid_mag z h) })

pub grid_cast : (z : ℤ) → in_range z ≡ true → to_z w16 (of_z w16 (to_z w64 (of_z w64 z))) ≡ z
grid_cast z h = rw (grid_wide z h) (to_z-of_z w16 z (grid_fits z h))
