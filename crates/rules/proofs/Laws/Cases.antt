-- Laws of the five cases that rest on `more_pass`: what they refuse has f below 3, and the answer is 5 + f.
use Rattle.std.specs.Prelude.{◌≡◌, ◌↔◌, ◌≢◌, Bool, ◌&&◌, eqb}
use Rattle.std.proofs.Math.Path.{refl}
use Rattle.std.proofs.Common.{ap, ◌∙◌, ⊎_elim, lt_of_not-le, lit<}
use Rattle.std.proofs.Math.Bool.{true, false, not, cond}
use mathlib.Core.List.{[], ◌∷◌}
use Prim.Native.Nat.{ℕ, zero, suc, ◌+◌, ◌≤◌, ◌<◌}
use native.Mathlib.Omega.{arith}
use borrow.Author.Tests.{ne_eqb}
use Rattle.rules.specs.Table.{Table}
use Rattle.rules.specs.Cases.{triangles_on_skin, passes, refuses_at, case_answer}
use Rattle.rules.specs.Proposals.{RefusedByCases}
use Rattle.rules.specs.Laws.Truth.{true_or_false, not_both}
use Rattle.rules.specs.Laws.First.{first_true}
use Rattle.rules.specs.Laws.Cases.{more_pass, case_answer_by}

module _ (t : Table) (inside : ℕ → Bool) (adding : Bool) (r : ℕ) where
  -- so what is refused has f below 3
  pub refused_f : passes t inside adding r ≡ false → triangles_on_skin t inside r < 3
  refused_f n = lt_of_not-le (λ l. not_both (more_pass t inside adding r l) n)

  -- 0 if they pass, else 5 for f = 0, 6 for f = 1, 7 for f = 2
  pub case_answer_lem : case_answer t inside adding r ≡ cond (passes t inside adding r) 0 (5 + triangles_on_skin t inside r)
  unfolding refuses_at
  case_answer_lem = case_answer_by t inside adding r ∙ by_f (triangles_on_skin t inside r) (passes t inside adding r) (more_pass t inside adding r)
    where
      by_f : (f : ℕ) (fits : Bool) → (3 ≤ f → fits ≡ true) → first_true 5 ((eqb f 0 && not fits) ∷ (eqb f 1 && not fits) ∷ (eqb f 2 && not fits) ∷ []) 0 ≡ cond fits 0 (5 + f)
      by_f zero true more = refl
      by_f zero false more = refl
      by_f (suc zero) true more = refl
      by_f (suc zero) false more = refl
      by_f (suc (suc zero)) true more = refl
      by_f (suc (suc zero)) false more = refl
      by_f (suc (suc (suc f))) fits more =
          let n : (k : ℕ) → k < 3 → suc (suc (suc f)) ≢ k = λ k l e. omega arith in
          rw (ne_eqb (suc (suc (suc f))) 0 (n 0 (lit< tt)), ne_eqb (suc (suc (suc f))) 1 (n 1 (lit< tt)), ne_eqb (suc (suc (suc f))) 2 (n 2 (lit< tt)), more (omega arith))

  passed : passes t inside adding r ≡ true → case_answer t inside adding r ≡ 0
  passed e = case_answer_lem ∙ rw e

  refused : passes t inside adding r ≡ false → case_answer t inside adding r ≡ 5 + triangles_on_skin t inside r
  refused n = case_answer_lem ∙ rw n

  -- the cases pass exactly if none of the three refuses
  pub passed_exactly : (case_answer t inside adding r ≡ 0) ↔ (passes t inside adding r ≡ true)
  passed_exactly = (
    λ e. ⊎_elim (λ p. p) (λ n. absurd (omega (arith, e, refused n))) (true_or_false (passes t inside adding r)),
    passed,
  )

  pub refused_exactly : RefusedByCases (case_answer t inside adding r) ↔ (passes t inside adding r ≡ false)
  refused_exactly = (
    λ (l, _). ⊎_elim (λ p. absurd (omega (arith, l, passed p))) (λ n. n) (true_or_false (passes t inside adding r)),
    λ n. (omega (arith, refused n), omega (arith, refused n, refused_f n)),
  )

  -- each of the three exactly at its f
  pub refused_at_exactly : (f : ℕ) → (case_answer t inside adding r ≡ 5 + f) ↔ ((triangles_on_skin t inside r ≡ f) × (passes t inside adding r ≡ false))
  refused_at_exactly f = (
    λ e. ⊎_elim (λ p. absurd (omega (arith, e, passed p))) (λ n. (omega (arith, e, refused n), n)) (true_or_false (passes t inside adding r)),
    λ (e, n). refused n ∙ ap (λ (k : ℕ). 5 + k) e,
  )
