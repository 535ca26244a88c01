-- Division by 16 loses nothing on the whole grid, and multiplication by 16 brings it back.
use Rattle.std.specs.Prelude.{◌≡◌, ℕ, ◌*◌, Bool, true, false, not, ◌&&◌, ℤ, pos, negsuc, ◌==◌, from_bits, unsigned_abs, refl, Float}
use Rattle.std.proofs.Common.{sym, ap, ◌∙◌, eqb-true}
use Rattle.std.specs.Bool.{beq}
use Rattle.std.specs.Float.{nan, inf, fin, binary32}
use Rattle.std.specs.Float.Ieee.{up, down, neg, le, to_signed, nan_bits}
use Rattle.std.specs.Float.Ieee.Exact.{HasValue}
use Rattle.std.proofs.lemmas.Bool.{not-true}
use Rattle.rules.specs.Laws.Truth.{and_first, and_second, not_both}
use Rattle.rules.specs.Points.{below_zero, in_range}
use Rattle.rules.specs.Stl.{metres, bits_of}
use Rattle.grid.specs.Sweep.{same_z, valued, times, within, back, passes, each}

beq_true : (a b : Bool) → beq a b ≡ true → a ≡ b
beq_true true true h = refl
beq_true true false h = sym h
beq_true false true h = h
beq_true false false h = refl

valued_has : (x : Float) (s : Bool) (a c : ℕ) → valued x s a c ≡ true → HasValue x s a c
valued_has nan s a c h = not_both h refl
valued_has (inf t) s a c h = not_both h refl
valued_has (fin t m e) s a c h =
    (beq_true t s (and_first (beq t s) (m * up e * c == a * down e) h), eqb-true (m * up e * c) (a * down e) (and_second (beq t s) (m * up e * c == a * down e) h))

same_z_true : (u v : ℤ) → same_z u v ≡ true → u ≡ v
same_z_true (pos m) (pos n) h = ap pos (eqb-true m n h)
same_z_true (pos m) (negsuc n) h = absurd (not_both h refl)
same_z_true (negsuc m) (pos n) h = absurd (not_both h refl)
same_z_true (negsuc m) (negsuc n) h = ap negsuc (eqb-true m n h)

-- the f32 written for so many units is their sixteenth, sign and all
pub exact : (u : ℤ) → in_range u ≡ true → HasValue (metres u) (below_zero u) (unsigned_abs u) 16
unfolding passes
exact u h = valued_has (metres u) (below_zero u) (unsigned_abs u) 16 (and_first (valued (metres u) (below_zero u) (unsigned_abs u) 16) (back (bits_of u) u) (each u h))

-- what the code finds from the bits
pub record Back (bits : ℕ) (u : ℤ) : Type 0 where
  pub number : nan_bits binary32 bits ≡ false
  pub above : le (neg (from_bits binary32 0x447f_c000)) (times bits) ≡ true
  pub below : le (times bits) (from_bits binary32 0x447f_c000) ≡ true
  pub units : to_signed 63 (times bits) ≡ u

pub comes_back : (u : ℤ) → in_range u ≡ true → Back (bits_of u) u
unfolding passes back within
comes_back u h =
    let b = bits_of u in
    let all = and_second (valued (metres u) (below_zero u) (unsigned_abs u) 16) (back b u) (each u h) in
    let rest = and_second (not (nan_bits binary32 b)) (within (times b) && same_z (to_signed 63 (times b)) u) all in
    let range = and_first (within (times b)) (same_z (to_signed 63 (times b)) u) rest in
    record {
      number = not-true (nan_bits binary32 b) (and_first (not (nan_bits binary32 b)) (within (times b) && same_z (to_signed 63 (times b)) u) all);
      above = and_first (le (neg (from_bits binary32 0x447f_c000)) (times b)) (le (times b) (from_bits binary32 0x447f_c000)) range;
      below = and_second (le (neg (from_bits binary32 0x447f_c000)) (times b)) (le (times b) (from_bits binary32 0x447f_c000)) range;
      units = same_z_true (to_signed 63 (times b)) u (and_second (within (times b)) (same_z (to_signed 63 (times b)) u) rest);
    }

-- no two grid numbers have the same bits
pub bits_one : (u v : ℤ) → in_range u ≡ true → in_range v ≡ true → bits_of u ≡ bits_of v → u ≡ v
bits_one u v p q e = sym (comes_back u p).units ∙ ap (λ (b : ℕ). to_signed 63 (times b)) e ∙ (comes_back v q).units
