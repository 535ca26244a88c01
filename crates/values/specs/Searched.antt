-- A search with `find` over a range gives the lowest number that passes. No contract cites this file: it rests on std's proofs.
use Rattle.std.specs.Prelude.{◌≡◌, ℕ, Option, Some, None, Bool, true, false, MatchOption, ◌≤◌, ◌<◌, List, leb}
use Rattle.std.proofs.Common.{sym, ⊎_elim, leb-true, leb-false}
use Rattle.std.proofs.iter.Yields.{nat_range_steps}
use Rattle.std.proofs.lemmas.Iterator.{first_from_Range}
use Rattle.std.specs.Bool.{⊤}
use Rattle.std.specs.Fn.{CalledAt}
use Rattle.std.specs.Iterator.{YieldsThen}
use Rattle.std.specs.List.{FoldsTo}
use Rattle.std.specs.declared.ops.Range.{Range}
use denote.Param.Members.{Mut}
use denote.Ref.{Bor}
use Rattle.rules.specs.Below.{lowest}
use Rattle.rules.specs.Laws.Below.{none_lowest, is_lowest}
use Rattle.rules.specs.Laws.Truth.{true_or_false}
use Rattle.values.specs.Places.{place_of}

module _ {F : Type 0} {g : Mut F (Bor ℕ × Unit {0}) Bool} {s : Range ℕ} {f : F} (u : Range ℕ) (r : Option ℕ) (n : ℕ) (p : ℕ → Bool) (ends : s.end ≡ n)
    (before : (k : ℕ) → k < s.start → p k ≡ false)
    (ran : (xs : List ℕ) × (j : F) × YieldsThen nat_range_steps s xs r u × FoldsTo (λ p x q. CalledAt g p x false q) f xs j × MatchOption r ⊤ (λ x. (h : F) × CalledAt g j x true h)) where
  -- where no number before the range passes, and the closure answers p in the range and stays as it is
  pub lowest_found_from : ((x : ℕ) (q : F) → CalledAt g f x true q → s.start ≤ x → p x ≡ true)
      → ((x : ℕ) (q : F) → CalledAt g f x false q → (q ≡ f) × (s.start ≤ x → p x ≡ false)) → place_of r ≡ lowest n p
  lowest_found_from pass fail =
      rw (← ends) (by r (first_from_Range s u f r (λ k. s.start ≤ k → p k ≡ true) (λ k. s.start ≤ k → p k ≡ false) ran pass fail))
    where
      below : (m : ℕ) → ((k : ℕ) → s.start ≤ k → k < m → s.start ≤ k → p k ≡ false) → (k : ℕ) → k < m → p k ≡ false
      below m h k l =
          ⊎_elim (λ (a : leb s.start k ≡ true). h k (leb-true s.start k a) l (leb-true s.start k a)) (λ b. before k (leb-false s.start k b)) (true_or_false (leb s.start k))

      by : (r : Option ℕ) → MatchOption r ((k : ℕ) → s.start ≤ k → k < s.end → s.start ≤ k → p k ≡ false)
          (λ i. (s.start ≤ i) × (i < s.end) × (s.start ≤ i → p i ≡ true) × ((k : ℕ) → s.start ≤ k → k < i → s.start ≤ k → p k ≡ false))
          → place_of r ≡ lowest s.end p
      by None h = sym (none_lowest s.end p (below s.end h))
      by (Some i) (a, l, e, h) = sym (is_lowest s.end p i (record { below = l; passes = e a; first = below i h }))

  -- and at every number
  pub lowest_found : ((x : ℕ) (q : F) → CalledAt g f x true q → p x ≡ true) → ((x : ℕ) (q : F) → CalledAt g f x false q → (q ≡ f) × (p x ≡ false)) → place_of r ≡ lowest n p
  lowest_found pass fail = lowest_found_from (λ x q k _. pass x q k) (λ x q k. let (same, no') = fail x q k in (same, λ _. no'))
