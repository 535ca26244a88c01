-- Laws of lowest, any and all.
use Rattle.std.specs.Prelude.{◌≡◌, refl, ◌⊎◌, Bool, true, false, not, ◌&&◌, ◌||◌, ℕ, zero, suc, ◌+◌, ◌≤◌, ◌<◌}
use Rattle.std.proofs.Common.{sym, subst, inl, inr, ⊎_elim, le_of_suc-le-suc, not-suc-le-zero, eq-or-lt_of_le, le_refl, le_antisymm, lt_of_not-le, add-one, arith}
use Rattle.std.proofs.Math.Option.{some, none}
use Rattle.std.proofs.Math.Nat.{le_step}
use Rattle.std.proofs.lemmas.Bool.{not-true, not-false}
use Rattle.rules.specs.Below.{or_else, found, lowest, any, all}
use Rattle.rules.specs.Laws.Truth.{true_or_false, not_both, is_false, and_first, and_second, and_both, or_either, or_first, or_second}

-- what holds of each number below n, and of n, holds of each below n + 1
pub below_suc {ℓ} : (P : ℕ → Type ℓ) (n : ℕ) → ((k : ℕ) → k < n → P k) → P n → (k : ℕ) → k < suc n → P k
below_suc P n before here k h = ⊎_elim (λ e. subst P (sym e) here) (λ l. before k l) (eq-or-lt_of_le (le_of_suc-le-suc h))

-- ---- one number more, as a loop counts it

lowest_more : (n : ℕ) (p : ℕ → Bool) → lowest (n + 1) p ≡ or_else (lowest n p) (found (p n) n)
unfolding lowest
lowest_more n p = rw add-one

pub any_more : (n : ℕ) (p : ℕ → Bool) → any (n + 1) p ≡ (any n p || p n)
unfolding any
any_more n p = rw add-one

pub all_more : (n : ℕ) (p : ℕ → Bool) → all (n + 1) p ≡ (all n p && p n)
unfolding all
all_more n p = rw add-one

-- ---- lowest

-- k is the lowest number below n that passes
pub record Lowest (n : ℕ) (p : ℕ → Bool) (k : ℕ) : Type 0 where
  pub below : k < n
  pub passes : p k ≡ true
  pub first : (j : ℕ) → j < k → p j ≡ false

pub lowest_one : {n k m : ℕ} {p : ℕ → Bool} → Lowest n p k → Lowest n p m → k ≡ m
lowest_one {k = k} {m = m} a b =
    le_antisymm (le_of_suc-le-suc (lt_of_not-le (λ (l : suc m ≤ k). not_both b.passes (a.first m l))))
    (le_of_suc-le-suc (lt_of_not-le (λ (l : suc k ≤ m). not_both a.passes (b.first k l))))

-- it is found, or no number passes
abbrev Searched : ℕ → (ℕ → Bool) → Type 0
Searched n p = ((k : ℕ) × (lowest n p ≡ some k) × Lowest n p k) ⊎ ((lowest n p ≡ none) × ((k : ℕ) → k < n → p k ≡ false))

searched : (n : ℕ) (p : ℕ → Bool) → Searched n p
unfolding lowest or_else found
searched zero p = inr (refl, λ k h. absurd (not-suc-le-zero h))
searched (suc n) p = go (searched n p) (true_or_false (p n))
  where
    go : Searched n p → (p n ≡ true) ⊎ (p n ≡ false) → Searched (suc n) p
    go (inl (k, e, l)) _ = inl (k, rw e, record { below = le_step l.below; passes = l.passes; first = l.first })
    go (inr (e, off)) (inl t) = inl (n, rw (e, t), record { below = le_refl (suc n); passes = t; first = off })
    go (inr (e, off)) (inr f) = inr (rw (e, f), below_suc (λ k. p k ≡ false) n off f)

pub lowest_is : (n : ℕ) (p : ℕ → Bool) (k : ℕ) → lowest n p ≡ some k → Lowest n p k
lowest_is n p k e = go (searched n p)
  where
    go : Searched n p → Lowest n p k
    go (inl (m, f, l)) = subst (Lowest n p) (cc) l
    go (inr (f, _)) = let z : ◌≡◌ {A = ℕ} 0 1 = cc in absurd (omega arith)

pub is_lowest : (n : ℕ) (p : ℕ → Bool) (k : ℕ) → Lowest n p k → lowest n p ≡ some k
is_lowest n p k low = go (searched n p)
  where
    go : Searched n p → lowest n p ≡ some k
    go (inl (m, f, l)) = let same : k ≡ m = lowest_one low l in cc
    go (inr (_, off)) = absurd (not_both low.passes (off k low.below))

pub lowest_none : (n : ℕ) (p : ℕ → Bool) → lowest n p ≡ none → (k : ℕ) → k < n → p k ≡ false
lowest_none n p e = go (searched n p)
  where
    go : Searched n p → (k : ℕ) → k < n → p k ≡ false
    go (inl (m, f, l)) = let z : ◌≡◌ {A = ℕ} 0 1 = cc in absurd (omega arith)
    go (inr (f, off)) = off

pub none_lowest : (n : ℕ) (p : ℕ → Bool) → ((k : ℕ) → k < n → p k ≡ false) → lowest n p ≡ none
none_lowest n p off = go (searched n p)
  where
    go : Searched n p → lowest n p ≡ none
    go (inl (m, f, l)) = absurd (not_both l.passes (off m l.below))
    go (inr (f, _)) = f

-- one of the numbers below n is the lowest that passes, or none passes
pub lowest_or_none : (n : ℕ) (p : ℕ → Bool) → ((k : ℕ) × Lowest n p k) ⊎ ((k : ℕ) → k < n → p k ≡ false)
lowest_or_none n p = ⊎_elim (λ (k, _, l). inl (k, l)) (λ (_, off). inr off) (searched n p)

-- ---- a search in rising order: it has passed the numbers below i, and none of them passes the test

pub searched_more : (i : ℕ) (p : ℕ → Bool) → lowest i p ≡ none → p i ≡ false → lowest (i + 1) p ≡ none
unfolding or_else found
searched_more i p e f = rw (lowest_more i p, e, f)

pub search_stops : (n i : ℕ) (p : ℕ → Bool) → lowest i p ≡ none → i < n → p i ≡ true → lowest n p ≡ some i
search_stops n i p e l t = is_lowest n p i (record { below = l; passes = t; first = lowest_none i p e })

pub search_ends : (n i : ℕ) (p : ℕ → Bool) → lowest i p ≡ none → n ≤ i → lowest n p ≡ none
search_ends n i p e l = none_lowest n p (λ k m. lowest_none i p e k (omega arith))

-- ---- any and all

pub any_here : (n : ℕ) (p : ℕ → Bool) (k : ℕ) → k < n → p k ≡ true → any n p ≡ true
unfolding any
any_here zero p k h t = absurd (not-suc-le-zero h)
any_here (suc n) p k h t =
    ⊎_elim (λ (e : k ≡ n). or_second (any n p) (rw e at t)) (λ l. or_first (p n) (any_here n p k l t)) (eq-or-lt_of_le (le_of_suc-le-suc h))

pub any_some : (n : ℕ) (p : ℕ → Bool) → any n p ≡ true → (k : ℕ) × (k < n) × (p k ≡ true)
unfolding any
any_some zero p t = absurd (not_both t refl)
any_some (suc n) p t =
    ⊎_elim (λ a. let (k, l, q) = any_some n p a in (k, le_step l, q)) (λ q. (n, le_refl (suc n), q)) (or_either (any n p) (p n) t)

pub any_none : (n : ℕ) (p : ℕ → Bool) → any n p ≡ false → (k : ℕ) → k < n → p k ≡ false
any_none n p f k h = is_false (p k) (λ t. not_both (any_here n p k h t) f)

pub none_any : (n : ℕ) (p : ℕ → Bool) → ((k : ℕ) → k < n → p k ≡ false) → any n p ≡ false
none_any n p off = is_false (any n p) (λ t. let (k, l, q) = any_some n p t in not_both q (off k l))

pub all_each : (n : ℕ) (p : ℕ → Bool) → all n p ≡ true → (k : ℕ) → k < n → p k ≡ true
unfolding all
all_each zero p t k h = absurd (not-suc-le-zero h)
all_each (suc n) p t k h = below_suc (λ j. p j ≡ true) n (all_each n p (and_first (all n p) (p n) t)) (and_second (all n p) (p n) t) k h

pub each_all : (n : ℕ) (p : ℕ → Bool) → ((k : ℕ) → k < n → p k ≡ true) → all n p ≡ true
unfolding all
each_all zero p on = refl
each_all (suc n) p on = and_both (each_all n p (λ k l. on k (le_step l))) (on n (le_refl (suc n)))

pub all_fails : (n : ℕ) (p : ℕ → Bool) → all n p ≡ false → (k : ℕ) × (k < n) × (p k ≡ false)
all_fails n p f = go (lowest_or_none n (λ k. not (p k)))
  where
    go : ((k : ℕ) × Lowest n (λ k. not (p k)) k) ⊎ ((k : ℕ) → k < n → not (p k) ≡ false) → (k : ℕ) × (k < n) × (p k ≡ false)
    go (inl (k, l)) = (k, l.below, not-true (p k) l.passes)
    go (inr off) = absurd (not_both (each_all n p (λ k l. not-false (p k) (off k l))) f)

pub fails_all : (n : ℕ) (p : ℕ → Bool) (k : ℕ) → k < n → p k ≡ false → all n p ≡ false
fails_all n p k h f = is_false (all n p) (λ t. not_both (all_each n p t k h) f)

-- ---- tests that agree below n

pub any_same : (n : ℕ) (p q : ℕ → Bool) → ((k : ℕ) → k < n → p k ≡ q k) → any n p ≡ any n q
unfolding any
any_same zero p q e = refl
any_same (suc n) p q e = rw (any_same n p q (λ k l. e k (le_step l)), e n (le_refl (suc n)))

pub all_same : (n : ℕ) (p q : ℕ → Bool) → ((k : ℕ) → k < n → p k ≡ q k) → all n p ≡ all n q
unfolding all
all_same zero p q e = refl
all_same (suc n) p q e = rw (all_same n p q (λ k l. e k (le_step l)), e n (le_refl (suc n)))

pub lowest_same : (n : ℕ) (p q : ℕ → Bool) → ((k : ℕ) → k < n → p k ≡ q k) → lowest n p ≡ lowest n q
unfolding lowest
lowest_same zero p q e = refl
lowest_same (suc n) p q e = rw (lowest_same n p q (λ k l. e k (le_step l)), e n (le_refl (suc n)))
