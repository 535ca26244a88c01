-- Two polynomials over the whole numbers are equal where the terms of their difference, gathered by their factors, have coefficients
-- zero: a test that computes.
use Rattle.std.specs.Prelude.{◌≡◌, Bool, cond, ◌&&◌, ℕ, eqb, leb, ℤ, negsuc, ◌+ℤ◌, ◌-ℤ◌, ◌*ℤ◌}
use Rattle.std.proofs.Math.Path.{refl, sym, ap, ap₂}
use Rattle.std.proofs.Common.{◌∙◌, eqb-true}
use Rattle.std.proofs.Math.Bool.{true, false}
use mathlib.Core.List.{List, [], ◌∷◌}
use Rattle.std.proofs.Math.IntN.{pos, neg_ℤ, +ℤ_assoc, +ℤ_idl, +ℤ_idr, -ℤ-+ℤ_cancel, *ℤ_comm, zero-*ℤ}
use Rattle.rules.specs.Laws.Truth.{and_first, and_second, not_both}
use Rattle.whole.specs.Ring.{one_mul, mul_assoc, mul_left_comm, mul_four, add_mul, mul_add, add_left_comm, neg_mul, neg_add}

-- ---- polynomials in variables that are numbered

pub data Polynomial : Type 0 where
  var : ℕ → Polynomial
  add : Polynomial → Polynomial → Polynomial
  sub : Polynomial → Polynomial → Polynomial
  mul : Polynomial → Polynomial → Polynomial
  neg : Polynomial → Polynomial

-- a coefficient and the variables that it is multiplied by, rising
record Term : Type 0 where
  times : ℤ
  factors : List ℕ

-- ---- the terms of a polynomial, those with the same factors gathered

abbrev insert : ℕ → List ℕ → List ℕ
insert i [] = i ∷ []
insert i (j ∷ m) = cond (leb i j) (i ∷ j ∷ m) (j ∷ insert i m)

abbrev union : List ℕ → List ℕ → List ℕ
union [] n = n
union (i ∷ m) n = insert i (union m n)

abbrev same : List ℕ → List ℕ → Bool
same [] [] = true
same [] (j ∷ n) = false
same (i ∷ m) [] = false
same (i ∷ m) (j ∷ n) = eqb i j && same m n

abbrev gather : Term → List Term → List Term
gather t [] = t ∷ []
gather t (s ∷ p) = cond (same t.factors s.factors) (record { times = t.times +ℤ s.times; factors = s.factors } ∷ p) (s ∷ gather t p)

abbrev plus : List Term → List Term → List Term
plus [] q = q
plus (t ∷ p) q = gather t (plus p q)

abbrev scaled : Term → List Term → List Term
scaled t [] = []
scaled t (s ∷ p) = record { times = t.times *ℤ s.times; factors = union t.factors s.factors } ∷ scaled t p

abbrev product : List Term → List Term → List Term
product [] q = []
product (t ∷ p) q = plus (scaled t q) (product p q)

abbrev negated : List Term → List Term
negated [] = []
negated (t ∷ p) = record { times = neg_ℤ t.times; factors = t.factors } ∷ negated p

abbrev terms : Polynomial → List Term
terms (var i) = record { times = pos 1; factors = i ∷ [] } ∷ []
terms (add e f) = plus (terms e) (terms f)
terms (sub e f) = plus (terms e) (negated (terms f))
terms (mul e f) = product (terms e) (terms f)
terms (neg e) = negated (terms e)

abbrev is_zero : ℤ → Bool
is_zero (pos n) = eqb n 0
is_zero (negsuc n) = false

-- every coefficient is zero
abbrev vanishes : List Term → Bool
vanishes [] = true
vanishes (t ∷ p) = is_zero t.times && vanishes p

-- ---- what they stand for, where variable i is `ρ i`

module _ (ρ : ℕ → ℤ) where
  abbrev pub value : Polynomial → ℤ
  value (var i) = ρ i
  value (add e f) = value e +ℤ value f
  value (sub e f) = value e -ℤ value f
  value (mul e f) = value e *ℤ value f
  value (neg e) = neg_ℤ (value e)

  -- the product of the factors
  mono : List ℕ → ℤ
  mono [] = pos 1
  mono (i ∷ m) = ρ i *ℤ mono m

  total : List Term → ℤ
  total [] = pos 0
  total (t ∷ p) = t.times *ℤ mono t.factors +ℤ total p

  insert_is : (i : ℕ) (m : List ℕ) → mono (insert i m) ≡ ρ i *ℤ mono m
  unfolding mono
  insert_is i [] = refl
  insert_is i (j ∷ m) = go (insert_is i m) (leb i j)
    where
      go : mono (insert i m) ≡ ρ i *ℤ mono m → (t : Bool) → mono (cond t (i ∷ j ∷ m) (j ∷ insert i m)) ≡ ρ i *ℤ (ρ j *ℤ mono m)
      go later true = refl
      go later false = ap (λ (x : ℤ). ρ j *ℤ x) later ∙ mul_left_comm (ρ j) (ρ i) (mono m)

  union_is : (m n : List ℕ) → mono (union m n) ≡ mono m *ℤ mono n
  unfolding mono
  union_is [] n = sym (one_mul (mono n))
  union_is (i ∷ m) n = insert_is i (union m n) ∙ ap (λ (x : ℤ). ρ i *ℤ x) (union_is m n) ∙ sym (mul_assoc (ρ i) (mono m) (mono n))

  same_is : (m n : List ℕ) → same m n ≡ true → mono m ≡ mono n
  unfolding mono
  same_is [] [] e = refl
  same_is [] (j ∷ n) e = absurd (not_both e refl)
  same_is (i ∷ m) [] e = absurd (not_both e refl)
  same_is (i ∷ m) (j ∷ n) e = ap₂ (λ (x y : ℤ). x *ℤ y) (ap ρ (eqb-true i j (and_first (eqb i j) (same m n) e))) (same_is m n (and_second (eqb i j) (same m n) e))

  gather_is : (t : Term) (p : List Term) → total (gather t p) ≡ t.times *ℤ mono t.factors +ℤ total p
  unfolding total
  gather_is t [] = refl
  gather_is t (s ∷ p) = go (gather_is t p) (same t.factors s.factors) refl
    where
      go : total (gather t p) ≡ t.times *ℤ mono t.factors +ℤ total p → (b : Bool) → same t.factors s.factors ≡ b
          → total (cond b (record { times = t.times +ℤ s.times; factors = s.factors } ∷ p) (s ∷ gather t p))
          ≡ t.times *ℤ mono t.factors +ℤ (s.times *ℤ mono s.factors +ℤ total p)
      go later true e =
          ap (λ (x : ℤ). x +ℤ total p) (add_mul t.times s.times (mono s.factors))
          ∙ +ℤ_assoc (t.times *ℤ mono s.factors) (s.times *ℤ mono s.factors) (total p)
          ∙ ap (λ (x : ℤ). t.times *ℤ x +ℤ (s.times *ℤ mono s.factors +ℤ total p)) (sym (same_is t.factors s.factors e))
      go later false e =
          ap (λ (x : ℤ). s.times *ℤ mono s.factors +ℤ x) later
          ∙ add_left_comm (s.times *ℤ mono s.factors) (t.times *ℤ mono t.factors) (total p)

  plus_is : (p q : List Term) → total (plus p q) ≡ total p +ℤ total q
  unfolding total
  plus_is [] q = sym (+ℤ_idl (total q))
  plus_is (t ∷ p) q =
      gather_is t (plus p q) ∙ ap (λ (x : ℤ). t.times *ℤ mono t.factors +ℤ x) (plus_is p q)
      ∙ sym (+ℤ_assoc (t.times *ℤ mono t.factors) (total p) (total q))

  scaled_is : (t : Term) (p : List Term) → total (scaled t p) ≡ t.times *ℤ mono t.factors *ℤ total p
  unfolding total
  scaled_is t [] = sym (*ℤ_comm (t.times *ℤ mono t.factors) (pos 0) ∙ zero-*ℤ (t.times *ℤ mono t.factors))
  scaled_is t (s ∷ p) =
      ap₂ (λ (x y : ℤ). t.times *ℤ s.times *ℤ x +ℤ y) (union_is t.factors s.factors) (scaled_is t p)
      ∙ ap (λ (x : ℤ). x +ℤ t.times *ℤ mono t.factors *ℤ total p) (mul_four t.times s.times (mono t.factors) (mono s.factors))
      ∙ sym (mul_add (t.times *ℤ mono t.factors) (s.times *ℤ mono s.factors) (total p))

  product_is : (p q : List Term) → total (product p q) ≡ total p *ℤ total q
  unfolding total
  product_is [] q = sym (zero-*ℤ (total q))
  product_is (t ∷ p) q =
      plus_is (scaled t q) (product p q) ∙ ap₂ (λ (x y : ℤ). x +ℤ y) (scaled_is t q) (product_is p q)
      ∙ sym (add_mul (t.times *ℤ mono t.factors) (total p) (total q))

  negated_is : (p : List Term) → total (negated p) ≡ neg_ℤ (total p)
  unfolding total
  negated_is [] = refl
  negated_is (t ∷ p) = ap₂ (λ (x y : ℤ). x +ℤ y) (neg_mul t.times (mono t.factors)) (negated_is p) ∙ neg_add (t.times *ℤ mono t.factors) (total p)

  terms_are : (e : Polynomial) → total (terms e) ≡ value e
  unfolding total mono
  terms_are (var i) = +ℤ_idr (pos 1 *ℤ (ρ i *ℤ pos 1)) ∙ one_mul (ρ i *ℤ pos 1) ∙ *ℤ_comm (ρ i) (pos 1) ∙ one_mul (ρ i)
  terms_are (add e f) = plus_is (terms e) (terms f) ∙ ap₂ (λ (x y : ℤ). x +ℤ y) (terms_are e) (terms_are f)
  terms_are (sub e f) = plus_is (terms e) (negated (terms f)) ∙ ap₂ (λ (x y : ℤ). x +ℤ y) (terms_are e) (negated_is (terms f) ∙ ap neg_ℤ (terms_are f))
  terms_are (mul e f) = product_is (terms e) (terms f) ∙ ap₂ (λ (x y : ℤ). x *ℤ y) (terms_are e) (terms_are f)
  terms_are (neg e) = negated_is (terms e) ∙ ap neg_ℤ (terms_are e)

  zero_is : (z : ℤ) → is_zero z ≡ true → z ≡ pos 0
  zero_is (pos n) e = ap pos (eqb-true n 0 e)
  zero_is (negsuc n) e = absurd (not_both e refl)

  vanishes_is : (p : List Term) → vanishes p ≡ true → total p ≡ pos 0
  unfolding total
  vanishes_is [] e = refl
  vanishes_is (t ∷ p) e =
      let here = zero_is t.times (and_first (is_zero t.times) (vanishes p) e) in
      let later = vanishes_is p (and_second (is_zero t.times) (vanishes p) e) in
      ap₂ (λ (x y : ℤ). x *ℤ mono t.factors +ℤ y) here later ∙ +ℤ_idr (pos 0 *ℤ mono t.factors) ∙ zero-*ℤ (mono t.factors)

  -- two polynomials have one value where their difference vanishes
  pub equal : (e f : Polynomial) → vanishes (terms (sub e f)) ≡ true → value e ≡ value f
  equal e f v =
      sym (-ℤ-+ℤ_cancel (value e) (value f)) ∙ ap (λ (x : ℤ). x +ℤ value f) (sym (terms_are (sub e f)) ∙ vanishes_is (terms (sub e f)) v) ∙ +ℤ_idl (value f)
