-- How far a whole number lies from zero. What is computed with such numbers fits an i64, so it is read back as it was meant.
use Rattle.std.specs.Prelude.{◌≡◌, refl, Bool, true, false, not, ◌&&◌, cond, ℕ, zero, suc, ◌+◌, ◌*◌, ◌-◌, ◌^◌, ◌≤◌, ◌<◌, T, ltb, leb, ℤ, pos, negsuc, neg_ℤ, nat_abs, ◌+ℤ◌, ◌-ℤ◌, ◌*ℤ◌}
use Rattle.std.proofs.Common.{◌∙◌, mul-le-mul, le_refl, ltb→lt, ltb-true, ne_eqb, eqb, lt_irrefl, int_eq, is_eq, is_le, leb-false, Less, Greater, Equal, SFits, to_z, of_z, to_z-of_z}
use native.Mathlib.Omega.{arith}
use Rattle.std.proofs.Math.IntN.{sub_ℕ}
use Rattle.std.specs.Int.Signed.{mag, le_z, lt_z}
use Rattle.std.specs.Int.{w16, w64}
use borrow.Author.Tests.{ltb-true, lt-ltb, le-ltb, leb-true}
use Rattle.rules.specs.Points as R
use Rattle.rules.specs.Laws.Truth.{and_first, and_second}

-- z is at most k from zero
pub record Within (k : ℕ) (z : ℤ) : Type 0 where
  pub within : nat_abs z ≤ k

-- ---- how far the code's numbers lie from zero, by the bounds of their parts: two bytes as they are read, a coordinate in range, the
-- difference of two, a minor, the product

abbrev pub read_most : ℕ
read_most = 2 * 65536

abbrev pub grid_most : ℕ
grid_most = R.grid_most

abbrev pub apart_most : ℕ
apart_most = 2 * grid_most

abbrev pub minor_most : ℕ
minor_most = 2 * (apart_most * apart_most)

abbrev pub product_most : ℕ
product_most = 3 * (minor_most * apart_most)

-- ---- sums, differences and products

abs_neg : (z : ℤ) → nat_abs (neg_ℤ z) ≡ nat_abs z
abs_neg (pos zero) = refl
abs_neg (pos (suc n)) = refl
abs_neg (negsuc n) = refl

abs_sub : (a b : ℕ) → nat_abs (sub_ℕ a b) ≤ a + b
abs_sub a b = go (ltb a b) refl
  where
    go : (t : Bool) → ltb a b ≡ t → nat_abs (cond t (negsuc (b - suc a)) (pos (a - b))) ≤ a + b
    go true e = omega (arith, ltb-true a b e)
    go false e = omega arith

abs_add : (x y : ℤ) → nat_abs (x +ℤ y) ≤ nat_abs x + nat_abs y
abs_add (pos a) (pos b) = le_refl (a + b)
abs_add (pos a) (negsuc b) = abs_sub a (suc b)
abs_add (negsuc a) (pos b) = omega (arith, abs_sub b (suc a))
abs_add (negsuc a) (negsuc b) = omega arith

abs_mul : (x y : ℤ) → nat_abs (x *ℤ y) ≡ nat_abs x * nat_abs y
abs_mul (pos a) (pos b) = refl
abs_mul (pos a) (negsuc b) = abs_neg (pos (a * suc b))
abs_mul (negsuc a) (pos b) = abs_neg (pos (suc a * b))
abs_mul (negsuc a) (negsuc b) = refl

module _ {j k : ℕ} {x y : ℤ} (p : Within j x) (q : Within k y) where
  within_add : Within (j + k) (x +ℤ y)
  within_add = record { within = omega (arith, abs_add x y, p.within, q.within) }

  within_sub : Within (j + k) (x -ℤ y)
  within_sub = record { within = omega (arith, abs_add x (neg_ℤ y), abs_neg y, p.within, q.within) }

  within_mul : Within (j * k) (x *ℤ y)
  within_mul = record { within = omega (arith, abs_mul x y, mul-le-mul p.within q.within) }

-- ---- what is stored is read back

-- a bound by which a number fits an i64: closed by `tt` where it is a numeral
abbrev Room : ℕ → Type 0
Room k = T (ltb k (2 ^ 63))

pub fits : {k : ℕ} {z : ℤ} → Within k z → Room k → SFits w64 z
fits {k} {z} p r = record { sfits = omega (arith, mag_abs z, p.within, ltb→lt k (2 ^ 63) r) }
  where
    mag_abs : (z : ℤ) → mag z ≤ nat_abs z
    mag_abs (pos n) = le_refl n
    mag_abs (negsuc n) = omega arith

pub whole : {z : ℤ} → SFits w64 z → to_z w64 (of_z w64 z) ≡ z
whole f = to_z-of_z {w = w64} f

pub back : {k : ℕ} {z : ℤ} → Within k z → Room k → to_z w64 (of_z w64 z) ≡ z
back p r = whole (fits p r)

pub stored : {k : ℕ} {z : ℤ} → Within k z → Room k → Within k (to_z w64 (of_z w64 z))
stored p r = rw (back p r) p

-- z is w, and at most k from zero
pub record Exact (k : ℕ) (z w : ℤ) : Type 0 where
  pub is : z ≡ w
  pub within : Within k z

pub again : {k : ℕ} {z w : ℤ} → Exact k z w → Room k → Exact k (to_z w64 (of_z w64 z)) w
again e r = record { is = back e.within r ∙ e.is; within = stored e.within r }

pub held : {k : ℕ} {z : ℤ} → Within k z → Room k → Exact k (to_z w64 (of_z w64 z)) z
held p r = again (record { is = refl; within = p }) r

pub restated : {k : ℕ} {z v w : ℤ} → Exact k z v → v ≡ w → Exact k z w
restated e q = record { is = e.is ∙ q; within = e.within }

module _ {j k : ℕ} {m n v w : ℤ} (p : Exact j m v) (q : Exact k n w) where
  pub add_fits : Room (j + k) → SFits w64 (m +ℤ n)
  add_fits = fits (within_add p.within q.within)

  pub sub_fits : Room (j + k) → SFits w64 (m -ℤ n)
  sub_fits = fits (within_sub p.within q.within)

  pub mul_fits : Room (j * k) → SFits w64 (m *ℤ n)
  mul_fits = fits (within_mul p.within q.within)

  pub add_held : Room (j + k) → Exact (j + k) (to_z w64 (of_z w64 (m +ℤ n))) (v +ℤ w)
  add_held = again (record { is = rw (p.is, q.is); within = within_add p.within q.within })

  pub sub_held : Room (j + k) → Exact (j + k) (to_z w64 (of_z w64 (m -ℤ n))) (v -ℤ w)
  sub_held = again (record { is = rw (p.is, q.is); within = within_sub p.within q.within })

  pub mul_held : Room (j * k) → Exact (j * k) (to_z w64 (of_z w64 (m *ℤ n))) (v *ℤ w)
  mul_held = again (record { is = rw (p.is, q.is); within = within_mul p.within q.within })

-- ---- the sixteen bits of an i16

of_below : (w : ℕ) → w < 65536 → negsuc (65536 - suc w) ≡ sub_ℕ w 65536
of_below w l = rw (lt-ltb w 65536 l) refl

pub signed_read : (w : ℕ) → w < 65536 → Exact read_most (to_z w16 w) (R.signed w)
unfolding R.signed
signed_read w l = go (ltb w 32768) refl
  where
    go : (b : Bool) → ltb w 32768 ≡ b → Exact read_most (to_z w16 w) (cond b (pos w) (pos w -ℤ pos 65536))
    go true e = rw (e) (record { is = refl; within = record { within = omega arith } })
    go false e = rw (e) (record { is = of_below w l; within = record { within = omega arith } })

-- ---- zero

le_ordered : (m n : ℕ) → is_le (cond (ltb m n) Less (cond (ltb n m) Greater Equal)) ≡ leb m n
le_ordered m n = go (leb m n) refl
  where
    ended : (a : Bool) → is_le (cond a Less Equal) ≡ true
    ended true = refl
    ended false = refl

    go : (b : Bool) → leb m n ≡ b → is_le (cond (ltb m n) Less (cond (ltb n m) Greater Equal)) ≡ b
    go true e = rw (le-ltb n m (leb-true m n e)) (ended (ltb m n))
    go false e = rw (le-ltb m n (omega (arith, leb-false m n e)), lt-ltb n m (leb-false m n e)) refl

pub zero_stored : (z : ℤ) → SFits w64 z → eqb (of_z w64 z) 0 ≡ R.is_zero z
unfolding R.is_zero R.below_zero R.above_zero
zero_stored (pos zero) f = refl
zero_stored (pos (suc n)) f = rw (ne_eqb (suc n) 0 (λ e. lt_irrefl 0 (omega (arith, e))), lt-ltb 0 (suc n) (omega arith), le-ltb (suc n) 0 (omega arith)) refl
zero_stored (negsuc n) f = ne_eqb (of_z w64 (negsuc n)) 0 (λ e. lt_irrefl 0 (omega (arith, f.sfits, e)))

pub zero_equal : (z : ℤ) → int_eq z (pos 0) ≡ R.is_zero z
unfolding R.is_zero R.below_zero R.above_zero
zero_equal z = by (lt_z z (pos 0)) (lt_z (pos 0) z)
  where
    by : (a b : Bool) → is_eq (cond a Less (cond b Greater Equal)) ≡ (not a && not b)
    by true b = refl
    by false true = refl
    by false false = refl

-- ---- in range

-- the order of two numbers, as a comparison gives it
pub le_told : (a b : ℤ) → is_le (cond (lt_z a b) Less (cond (lt_z b a) Greater Equal)) ≡ le_z a b
le_told (pos m) (pos n) = le_ordered m n
le_told (pos m) (negsuc n) = refl
le_told (negsuc m) (pos n) = refl
le_told (negsuc m) (negsuc n) = le_ordered n m

pub in_range_lem : (z : ℤ) → R.in_range z ≡ true → Within grid_most z
unfolding R.in_range
in_range_lem (pos n) e = record { within = leb-true n 1023 (and_second (le_z (negsuc 1022) (pos n)) (leb n 1023) e) }
in_range_lem (negsuc n) e = record { within = omega (arith, leb-true n 1022 (and_first (leb n 1022) (le_z (negsuc n) (pos 1023)) e)) }
