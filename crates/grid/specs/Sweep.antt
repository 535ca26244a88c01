-- One computed test over the 2,047 numbers of the grid.
use Rattle.std.specs.Prelude.{◌≡◌, ℕ, ◌+◌, ◌-◌, ◌*◌, ◌<◌, ◌≤◌, Bool, true, false, not, ◌&&◌, ◌⊎◌, ℤ, pos, negsuc, ◌==◌, nat_le, nat_lt, unsigned_abs, refl, Float}
use Rattle.std.proofs.Common.{ap, ◌∙◌, subst, arith, leb-true, ltb-true, ltb-false, le-leb, lt-ltb, le-ltb, inl, inr, ⊎_elim}
use Rattle.std.specs.Bool.{beq}
use Rattle.std.proofs.Math.IntN.{sub_ℕ}
use Rattle.std.specs.Float.{nan, inf, fin, binary32}
use Rattle.std.specs.Float.Ieee.{up, down, div, mul, neg, le, of_int, of_bits, to_bits, to_signed, nan_bits}
use Rattle.rules.specs.Laws.Truth.{true_or_false, and_first}
use Rattle.rules.specs.Below.{all}
use Rattle.rules.specs.Laws.Below.{all_each}
use Rattle.rules.specs.Points.{below_zero, in_range}
use Rattle.rules.specs.Stl.{grid_number, metres, bits_of}

abbrev pub same_z : ℤ → ℤ → Bool
same_z (pos m) (pos n) = m == n
same_z (pos m) (negsuc n) = false
same_z (negsuc m) (pos n) = false
same_z (negsuc m) (negsuc n) = m == n

-- the float is a / c, negative if s
abbrev pub valued : Float → Bool → ℕ → ℕ → Bool
valued nan s a c = false
valued (inf t) s a c = false
valued (fin t m e) s a c = beq t s && m * up e * c == a * down e

-- the number times 16
unfoldable pub times : ℕ → Float
times bits = mul binary32 (of_bits binary32 bits) (of_bits binary32 0x4180_0000)

-- -1023 to 1023
unfoldable pub within : Float → Bool
within y = le (neg (of_bits binary32 0x447f_c000)) y && le y (of_bits binary32 0x447f_c000)

-- no NaN, and within the grid once multiplied, and back to the units
unfoldable pub back : ℕ → ℤ → Bool
back bits u = not (nan_bits binary32 bits) && (within (times bits) && same_z (to_signed 63 (times bits)) u)

unfoldable pub passes : ℤ → Bool
passes u = valued (metres u) (below_zero u) (unsigned_abs u) 16 && back (bits_of u) u

swept : all 2047 (λ k. passes (grid_number k)) ≡ true
unfolding all passes back within times grid_number below_zero metres bits_of div mul neg le of_int of_bits to_bits to_signed nan_bits
swept = refl

-- ---- to any number of the grid

-- the place of a number in the grid's order
abbrev pub place : ℤ → ℕ
place (pos n) = n + 1023
place (negsuc n) = 1022 - n

-- at 1023 or above, or below it
sides : (k : ℕ) → ((1023 ≤ k) × (grid_number k ≡ pos (k - 1023))) ⊎ ((k < 1023) × (grid_number k ≡ negsuc (1022 - k)))
unfolding grid_number
sides k = go (true_or_false (nat_lt k 1023))
  where
    go : (nat_lt k 1023 ≡ true) ⊎ (nat_lt k 1023 ≡ false) → ((1023 ≤ k) × (sub_ℕ k 1023 ≡ pos (k - 1023))) ⊎ ((k < 1023) × (sub_ℕ k 1023 ≡ negsuc (1022 - k)))
    go (inl t) = inr (ltb-true k 1023 t, rw t (ap negsuc (omega arith)))
    go (inr f) = inl (ltb-false k 1023 f, rw f)

pub place_number : (k : ℕ) → place (grid_number k) ≡ k
place_number k = ⊎_elim (λ (l, e). ap place e ∙ omega arith) (λ (l, e). ap place e ∙ omega arith) (sides k)

pub number_in_range : (k : ℕ) → k < 2047 → in_range (grid_number k) ≡ true
unfolding in_range
number_in_range k l = ⊎_elim (λ (m, e). ap in_range e ∙ le-leb (k - 1023) 1023 (omega arith)) (λ (m, e). ap in_range e ∙ rw (le-leb (1022 - k) 1022 (omega arith))) (sides k)

pub numbered : (u : ℤ) → in_range u ≡ true → (place u < 2047) × (grid_number (place u) ≡ u)
unfolding in_range grid_number
numbered (pos n) h =
    let l : n ≤ 1023 = leb-true n 1023 h in
    (omega arith, rw (le-ltb (n + 1023) 1023 (omega arith)) (ap pos (omega arith)))
numbered (negsuc n) h =
    let l : n ≤ 1022 = leb-true n 1022 (and_first (nat_le n 1022) true h) in
    (omega arith, rw (lt-ltb (1022 - n) 1023 (omega arith)) (ap negsuc (omega arith)))

pub each : (u : ℤ) → in_range u ≡ true → passes u ≡ true
each u h = let (l, e) = numbered u h in subst (λ (v : ℤ). passes v ≡ true) e (all_each 2047 (λ k. passes (grid_number k)) swept (place u) l)
