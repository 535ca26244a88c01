-- The laws of a ring for whole numbers: each side is a difference of two sums of products of naturals, and `omega` compares those.
use Rattle.std.specs.Prelude.{◌≡◌, refl, ℕ, zero, suc, ◌+◌, ◌*◌, ◌-◌, Bool, true, false, cond, ltb, ℤ, pos, negsuc, neg_ℤ, ◌+ℤ◌, ◌*ℤ◌}
use Rattle.std.proofs.Common.{sym, ap, ◌∙◌, arith, ltb-true, ltb-false}
use Rattle.std.proofs.Math.IntN.{sub_ℕ}

-- ---- differences

-- z is p - m
abbrev Is : ℤ → ℕ → ℕ → Type 0
Is (pos n) p m = n + m ≡ p
Is (negsuc n) p m = p + suc n ≡ m

is_sub_nat : (a b : ℕ) → Is (sub_ℕ a b) a b
is_sub_nat a b = go (ltb a b) refl
  where
    go : (t : Bool) → ltb a b ≡ t → Is (cond t (negsuc (b - suc a)) (pos (a - b))) a b
    go true e = omega (arith, ltb-true a b e)
    go false e = omega (arith, ltb-false a b e)

is_shift : (z : ℤ) (p m q n : ℕ) → Is z p m → p + n ≡ q + m → Is z q n
is_shift (pos k) p m q n i e = omega arith
is_shift (negsuc k) p m q n i e = omega arith

is_add : (z w : ℤ) (p m q n : ℕ) → Is z p m → Is w q n → Is (z +ℤ w) (p + q) (m + n)
is_add (pos a) (pos b) p m q n i j = omega arith
is_add (pos a) (negsuc b) p m q n i j = is_shift (sub_ℕ a (suc b)) a (suc b) (p + q) (m + n) (is_sub_nat a (suc b)) (omega arith)
is_add (negsuc a) (pos b) p m q n i j = is_shift (sub_ℕ b (suc a)) b (suc a) (p + q) (m + n) (is_sub_nat b (suc a)) (omega arith)
is_add (negsuc a) (negsuc b) p m q n i j = omega arith

is_neg : (z : ℤ) (p m : ℕ) → Is z p m → Is (neg_ℤ z) m p
is_neg (pos zero) p m i = omega arith
is_neg (pos (suc n)) p m i = omega arith
is_neg (negsuc n) p m i = omega arith

is_mul : (z w : ℤ) (p m q n : ℕ) → Is z p m → Is w q n → Is (z *ℤ w) (p * q + m * n) (p * n + m * q)
is_mul (pos a) (pos b) p m q n i j = rw (← i, ← j) (omega arith)
is_mul (pos a) (negsuc b) p m q n i j = is_neg (pos (a * suc b)) (p * n + m * q) (p * q + m * n) (rw (← i, ← j) (omega arith))
is_mul (negsuc a) (pos b) p m q n i j = is_neg (pos (suc a * b)) (p * n + m * q) (p * q + m * n) (rw (← i, ← j) (omega arith))
is_mul (negsuc a) (negsuc b) p m q n i j = rw (← i, ← j) (omega arith)

is_same : (z w : ℤ) (p m q n : ℕ) → Is z p m → Is w q n → p + n ≡ q + m → z ≡ w
is_same (pos a) (pos b) p m q n i j e = ap pos (omega arith)
is_same (pos a) (negsuc b) p m q n i j e = absurd (omega arith)
is_same (negsuc a) (pos b) p m q n i j e = absurd (omega arith)
is_same (negsuc a) (negsuc b) p m q n i j e = ap negsuc (omega arith)

-- ---- expressions

data Expression : Type 0 where
  num : ℤ → Expression
  add : Expression → Expression → Expression
  mul : Expression → Expression → Expression
  neg : Expression → Expression

abbrev value : Expression → ℤ
value (num z) = z
value (add e f) = value e +ℤ value f
value (mul e f) = value e *ℤ value f
value (neg e) = neg_ℤ (value e)

-- a value is `over` less `under`
over_of : ℤ → ℕ
over_of (pos n) = n
over_of (negsuc n) = 0

under_of : ℤ → ℕ
under_of (pos n) = 0
under_of (negsuc n) = suc n

is_num : (z : ℤ) → Is z (over_of z) (under_of z)
unfolding over_of under_of
is_num (pos n) = omega arith
is_num (negsuc n) = omega arith

abbrev mutual
  over : Expression → ℕ
  over (num z) = over_of z
  over (add e f) = over e + over f
  over (mul e f) = over e * over f + under e * under f
  over (neg e) = under e

  under : Expression → ℕ
  under (num z) = under_of z
  under (add e f) = under e + under f
  under (mul e f) = over e * under f + under e * over f
  under (neg e) = over e

is : (e : Expression) → Is (value e) (over e) (under e)
is (num z) = is_num z
is (add e f) = is_add (value e) (value f) (over e) (under e) (over f) (under f) (is e) (is f)
is (mul e f) = is_mul (value e) (value f) (over e) (under e) (over f) (under f) (is e) (is f)
is (neg e) = is_neg (value e) (over e) (under e) (is e)

-- two expressions have one value where their sums agree
law : (e f : Expression) → over e + under f ≡ over f + under e → value e ≡ value f
law e f q = is_same (value e) (value f) (over e) (under e) (over f) (under f) (is e) (is f) q

-- ---- the laws

pub one_mul : (a : ℤ) → pos 1 *ℤ a ≡ a
unfolding over_of under_of
one_mul a = law (mul (num (pos 1)) (num a)) (num a) (omega arith)

pub mul_assoc : (a b c : ℤ) → a *ℤ b *ℤ c ≡ a *ℤ (b *ℤ c)
mul_assoc a b c = law (mul (mul (num a) (num b)) (num c)) (mul (num a) (mul (num b) (num c))) (omega arith)

pub mul_left_comm : (a b c : ℤ) → a *ℤ (b *ℤ c) ≡ b *ℤ (a *ℤ c)
mul_left_comm a b c = law (mul (num a) (mul (num b) (num c))) (mul (num b) (mul (num a) (num c))) (omega arith)

pub mul_four : (a b c d : ℤ) → a *ℤ b *ℤ (c *ℤ d) ≡ a *ℤ c *ℤ (b *ℤ d)
mul_four a b c d = mul_assoc a b (c *ℤ d) ∙ ap (λ (x : ℤ). a *ℤ x) (mul_left_comm b c d) ∙ sym (mul_assoc a c (b *ℤ d))

pub add_mul : (a b c : ℤ) → (a +ℤ b) *ℤ c ≡ a *ℤ c +ℤ b *ℤ c
add_mul a b c = law (mul (add (num a) (num b)) (num c)) (add (mul (num a) (num c)) (mul (num b) (num c))) (omega arith)

pub mul_add : (a b c : ℤ) → a *ℤ (b +ℤ c) ≡ a *ℤ b +ℤ a *ℤ c
mul_add a b c = law (mul (num a) (add (num b) (num c))) (add (mul (num a) (num b)) (mul (num a) (num c))) (omega arith)

pub add_left_comm : (a b c : ℤ) → a +ℤ (b +ℤ c) ≡ b +ℤ (a +ℤ c)
add_left_comm a b c = law (add (num a) (add (num b) (num c))) (add (num b) (add (num a) (num c))) (omega arith)

pub neg_mul : (a b : ℤ) → neg_ℤ a *ℤ b ≡ neg_ℤ (a *ℤ b)
neg_mul a b = law (mul (neg (num a)) (num b)) (neg (mul (num a) (num b))) (omega arith)

pub neg_add : (a b : ℤ) → neg_ℤ a +ℤ neg_ℤ b ≡ neg_ℤ (a +ℤ b)
neg_add a b = law (add (neg (num a)) (neg (num b))) (neg (add (num a) (num b))) (omega arith)
