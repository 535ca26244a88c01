-- Laws of the five cases: f = 3 and f = 4 pass, and the tests are tried one after the other. What follows for the answer is proved in
-- `proofs.Laws.Cases`.
use Rattle.std.specs.Prelude.{◌≡◌, Bool}
use Rattle.std.proofs.Math.Bool.{true}
use mathlib.Core.List.{[], ◌∷◌}
use Prim.Native.Nat.{ℕ, ◌≤◌}
use native.Mathlib.Omega.{arith}
use borrow.Author.Tests.{ne_eqb}
use Rattle.rules.specs.Table.{Table}
use Rattle.rules.specs.First.{first_match}
use Rattle.rules.specs.Cases.{triangles_on_skin, passes, refuses_at, case_tests, case_answer}
use Rattle.rules.specs.Laws.First.{first_true, given_codes}

module _ (t : Table) (inside : ℕ → Bool) (adding : Bool) (r : ℕ) where
  -- f = 3 and f = 4 pass
  pub more_pass : 3 ≤ triangles_on_skin t inside r → passes t inside adding r ≡ true
  unfolding passes
  more_pass l =
      let f = triangles_on_skin t inside r in
      rw (ne_eqb f 0 (λ (e : f ≡ 0). omega arith), ne_eqb f 1 (λ (e : f ≡ 1). omega arith), ne_eqb f 2 (λ (e : f ≡ 2). omega arith))

  -- the cases one after the other
  pub case_answer_by : case_answer t inside adding r ≡ first_true 5 (refuses_at t inside adding r 0 ∷ refuses_at t inside adding r 1 ∷ refuses_at t inside adding r 2 ∷ []) 0
  unfolding case_tests first_match
  case_answer_by = given_codes 5 (refuses_at t inside adding r 0 ∷ refuses_at t inside adding r 1 ∷ refuses_at t inside adding r 2 ∷ []) []
