-- Laws of the highest number that passes.
use Rattle.std.specs.Prelude.{◌≡◌, Bool, true, false, cond, ℕ, zero, suc, ◌+◌, ◌≤◌, ◌<◌}
use Rattle.std.proofs.Math.Path.{refl}
use Rattle.std.proofs.Common.{ap, ◌∙◌, subst, ⊎_elim, le_refl, not-suc-le-zero, le_of_suc-le-suc, eq-or-lt_of_le, add-one, arith}
use Rattle.std.proofs.Math.Nat.{le_step}
use Rattle.rules.specs.Below.{sum, count}
use Rattle.rules.specs.Laws.Truth.{true_or_false, not_both}
use Rattle.rules.specs.Laws.Count.{bit_zero}

-- the highest number below n that passes, or 0
unfoldable pub highest : ℕ → (ℕ → Bool) → ℕ
highest zero p = 0
highest (suc n) p = cond (p n) n (highest n p)

pub highest_more : (n : ℕ) (p : ℕ → Bool) → highest (n + 1) p ≡ cond (p n) n (highest n p)
unfolding highest
highest_more n p = rw add-one

pub highest_small : (n : ℕ) (p : ℕ → Bool) → highest n p ≤ n
unfolding highest
highest_small zero p = le_refl 0
highest_small (suc n) p =
    ⊎_elim (λ (t : p n ≡ true). rw t (omega arith)) (λ (f : p n ≡ false). rw f (omega (arith, highest_small n p))) (true_or_false (p n))

-- where one passes, the highest does
pub highest_passes : (n : ℕ) (p : ℕ → Bool) (k : ℕ) → k < n → p k ≡ true → (highest n p < n) × (p (highest n p) ≡ true)
unfolding highest
highest_passes zero p k l t = absurd (not-suc-le-zero l)
highest_passes (suc n) p k l t =
    ⊎_elim (λ (on : p n ≡ true). rw on (le_refl (suc n), on))
    (λ (off : p n ≡ false).
    let m : k < n = ⊎_elim (λ (e : k ≡ n). absurd (not_both t (ap p e ∙ off))) (λ (m : k < n). m) (eq-or-lt_of_le (le_of_suc-le-suc l)) in
    rw off (let (below, passes) = highest_passes n p k m t in (le_step below, passes))) (true_or_false (p n))

-- the only one that passes
pub highest_is : (n : ℕ) (p : ℕ → Bool) (k : ℕ) → k < n → p k ≡ true → ((j : ℕ) → j < n → p j ≡ true → j ≡ k) → highest n p ≡ k
unfolding highest
highest_is zero p k l t only = absurd (not-suc-le-zero l)
highest_is (suc n) p k l t only =
    ⊎_elim (λ (on : p n ≡ true). rw on (only n (le_refl (suc n)) on))
    (λ (off : p n ≡ false).
    let m : k < n = ⊎_elim (λ (e : k ≡ n). absurd (not_both t (ap p e ∙ off))) (λ (m : k < n). m) (eq-or-lt_of_le (le_of_suc-le-suc l)) in
    rw off (highest_is n p k m t (λ j u. only j (omega arith)))) (true_or_false (p n))

-- ---- numbers that are passed over

-- from a up to b nothing passes: below b it is as below a
module _ (p : ℕ → Bool) where
  over : (P : ℕ → Type 0) → ((k : ℕ) → p k ≡ false → P k → P (suc k)) → (a b : ℕ) → a ≤ b → ((k : ℕ) → a ≤ k → k < b → p k ≡ false) → P a → P b
  over P more a zero l off pa = subst P (omega arith) pa
  over P more a (suc b) l off pa =
      ⊎_elim (λ (e : a ≡ suc b). subst P e pa)
      (λ (m : a < suc b). more b (off b (omega arith) (le_refl (suc b))) (over P more a b (omega arith) (λ k u v. off k u (omega arith)) pa)) (eq-or-lt_of_le l)

  pub count_over : (a b : ℕ) → a ≤ b → ((k : ℕ) → a ≤ k → k < b → p k ≡ false) → count a p ≡ count b p
  unfolding count sum
  count_over a b l off = over (λ k. count a p ≡ count k p) (λ k f e. e ∙ omega (arith, bit_zero f)) a b l off refl

  pub highest_over : (a b : ℕ) → a ≤ b → ((k : ℕ) → a ≤ k → k < b → p k ≡ false) → highest a p ≡ highest b p
  unfolding highest
  highest_over a b l off = over (λ k. highest a p ≡ highest k p) (λ k f e. rw f e) a b l off refl
