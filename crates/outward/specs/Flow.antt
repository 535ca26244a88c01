-- Rows that each pass from one number to another: numbers are left as often as they are entered.
use Rattle.std.specs.Prelude.{◌≡◌, refl, Bool, ◌&&◌, ℕ, ◌+◌, ◌<◌}
use Rattle.std.proofs.Common.{sym, ap, ◌∙◌}
use Rattle.std.proofs.Math.Bool.{true, false, not}
use native.Mathlib.Omega.{arith}
use Rattle.rules.specs.Below.{any, bit, sum, count}
use Rattle.rules.specs.Laws.Count.{sum_same, sum_swap, sum_add, any_count}

-- numbers below `ids`, rows below n; p w v s: row s passes from w to v
module _ (ids n : ℕ) (p : ℕ → ℕ → ℕ → Bool) where
  unfoldable pub leaves : ℕ → ℕ → Bool
  leaves w s = any ids (λ v. p w v s)

  unfoldable pub enters : ℕ → ℕ → Bool
  enters w s = any ids (λ v. p v w s)

  -- a row leaves a number for one other, and enters it from one other
  module _ (one_on : (w v v' s : ℕ) → s < n → p w v s ≡ true → p w v' s ≡ true → v ≡ v')
      (one_from : (w w' v s : ℕ) → s < n → p w v s ≡ true → p w' v s ≡ true → w ≡ w') where
    left : (w : ℕ) → count n (leaves w) ≡ sum n (λ s. sum ids (λ v. bit (p w v s)))
    unfolding count leaves
    left w = sum_same n (λ s. bit (leaves w s)) (λ s. sum ids (λ v. bit (p w v s))) (λ s l. any_count ids (λ v. p w v s) (λ i j _ _ a b. one_on w i j s l a b))

    entered : (w : ℕ) → count n (enters w) ≡ sum n (λ s. sum ids (λ v. bit (p v w s)))
    unfolding count enters
    entered w = sum_same n (λ s. bit (enters w s)) (λ s. sum ids (λ v. bit (p v w s))) (λ s l. any_count ids (λ v. p v w s) (λ i j _ _ a b. one_from i j w s l a b))

    balance : sum ids (λ w. count n (leaves w)) ≡ sum ids (λ w. count n (enters w))
    balance =
        sum_same ids (λ w. count n (leaves w)) (λ w. sum n (λ s. sum ids (λ v. bit (p w v s)))) (λ w _. left w)
        ∙ sum_swap ids n (λ w s. sum ids (λ v. bit (p w v s)))
        ∙ sum_same n (λ s. sum ids (λ w. sum ids (λ v. bit (p w v s)))) (λ s. sum ids (λ w. sum ids (λ v. bit (p v w s))))
        (λ s _. sum_swap ids ids (λ w v. bit (p w v s)))
        ∙ sum_swap n ids (λ s w. sum ids (λ v. bit (p v w s)))
        ∙ sum_same ids (λ w. sum n (λ s. sum ids (λ v. bit (p v w s)))) (λ w. count n (enters w)) (λ w _. sym (entered w))

    -- If each number that is not far is left as often as it is entered, and each far one is left once and not entered, or entered once
    -- and not left, then as many far numbers are left as are entered.
    pub as_many : (far up : ℕ → Bool) → ((w : ℕ) → w < ids → far w ≡ false → count n (leaves w) ≡ count n (enters w))
        → ((w : ℕ) → w < ids → far w ≡ true → (count n (leaves w) ≡ bit (up w)) × (count n (enters w) ≡ bit (not (up w))))
        → count ids (λ w. far w && up w) ≡ count ids (λ w. far w && not (up w))
    unfolding count
    as_many far up even once =
        omega (
          arith,
          balance,
          sum_add ids (λ w. count n (leaves w)) (λ w. bit (far w && not (up w))),
          sum_add ids (λ w. count n (enters w)) (λ w. bit (far w && up w)),
          sum_same ids (λ w. count n (leaves w) + bit (far w && not (up w))) (λ w. count n (enters w) + bit (far w && up w)) (λ w l. at w l (far w) refl),
        )
      where
        at : (w : ℕ) → w < ids → (b : Bool) → far w ≡ b → count n (leaves w) + bit (far w && not (up w)) ≡ count n (enters w) + bit (far w && up w)
        at w l true e = let (left_is, entered_is) = once w l e in rw e (rw (left_is, entered_is) (turned (up w)))
          where
            turned : (b : Bool) → bit b + bit (not b) ≡ bit (not b) + bit b
            turned b = omega arith
        at w l false e = rw e (ap (λ (k : ℕ). k + bit false) (even w l e))
