-- The five cases refuse, and the answers are given, exactly as `specs.Reading.Answers` says: each answer if it applies and none before it does.
use Rattle.std.specs.Prelude.{◌≡◌, refl, ◌⊎◌, ◌↔◌, ◌≢◌, true, false, ◌||◌, List, eqb, ltb}
use Rattle.std.proofs.Math.Path.{ap}
use Rattle.std.proofs.Common.{zero-lt-suc, arith}
use Rattle.std.proofs.Math.Logic.Iff
use Rattle.std.proofs.Math.Bool.{Bool, not}
use Rattle.std.proofs.Math.Option.{none}
use Prim.Native.Nat.{ℕ, zero, suc, ◌+◌, ◌≤◌, ◌<◌}
use borrow.Author.Tests.{eqb-false, ne_eqb, ltb-false, le-ltb, not-true, not-false}
use Rattle.rules.specs.Table.{Table, outer}
use Rattle.rules.specs.Skin.{on_skin}
use Rattle.rules.specs.Cases.{triangles_on_skin, passes, refuses_at, case_tests}
use Rattle.rules.specs.First.{given}
use Rattle.rules.specs.Proposals.{Proposal, inside_in, adds, answer_tests, answer}
use Rattle.rules.specs.Laws.Truth.{is_false, and_reads, or_reads, eqb_reads, or_no_first, or_no_second}
use Rattle.rules.specs.Laws.Count.{none_count, one_count, two_count}
use Rattle.rules.specs.Laws.First.{Reads, FirstOf, condition_at, code_reads, none_reads, given_reads, given_none}
use Rattle.rules.proofs.Laws.Cases.{refused_f}
use Rattle.rules.specs.Reading.Rows.{holds_reads}
use Rattle.rules.specs.Reading.Skin.{inside_reads, skin_reads}
use Rattle.rules.specs.Reading.Answers.{RefusesAt, Refuses, refuses_map, other_side_reads, not_is, case0, case1, case2, CaseRefuses, answer_conditions, other_reads}

-- ---- the computed test says so

module _ (t : Table) (inside : ℕ → Bool) (adding : Bool) (r : ℕ) where
  abbrev Skin : ℕ → Type 0
  Skin c = on_skin t inside r c ≡ true

  abbrev Other : ℕ → Type 0
  Other s = inside s ≡ adding

  -- ---- by f, the number of skin triangles

  abbrev f : ℕ
  f = triangles_on_skin t inside r

  -- by f, the cases refuse exactly so
  refuses_by_f : (g : ℕ) → ((f ≡ g) × (passes t inside adding r ≡ false)) ↔ RefusesAt t Skin Other r g
  unfolding triangles_on_skin
  refuses_by_f zero = (
    λ (z, n). (case0 t inside adding r z).0 n,
    λ x. let z : f ≡ 0 = none_count t.corners (on_skin t inside r) (λ c l. is_false (on_skin t inside r c) (x.0 c l)) in (z, (case0 t inside adding r z).1 x),
  )
  refuses_by_f (suc zero) = (λ (one, n). (case1 t inside adding r one).0 n, λ x. let one : f ≡ 1 = one_count t.corners (on_skin t inside r) x.0 in (one, (case1 t inside adding r one).1 x))
  refuses_by_f (suc (suc zero)) = (λ (two, n). (case2 t inside adding r two).0 n, λ x. let two : f ≡ 2 = two_count t.corners (on_skin t inside r) x.0 in (two, (case2 t inside adding r two).1 x))
  refuses_by_f (suc (suc (suc g))) = (λ (e, n). absurd (omega (arith, e, refused_f t inside adding r n)), λ x. absurd x)

  refuses_at_reads : (g : ℕ) → (refuses_at t inside adding r g ≡ true) ↔ RefusesAt t Skin Other r g
  unfolding refuses_at
  refuses_at_reads g = Iff.trans (and_reads (eqb_reads f g) (not_is (passes t inside adding r))) (refuses_by_f g)

  pub passes_reads : (passes t inside adding r ≡ false) ↔ Refuses t Skin Other r
  passes_reads = (λ n. (f, (refuses_by_f f).0 (refl, n)), λ (g, x). ((refuses_by_f g).1 x).1)

-- ---- the answers

module _ (t : Table) (marks : List ℕ) (p : Proposal) where
  -- for a kind that is 1 or 2 the tests say so
  module _ (known : (p.kind ≡ 1) ⊎ (p.kind ≡ 2)) where
    case_reads : (f : ℕ) → (refuses_at t (inside_in marks) (adds p) p.row f ≡ true) ↔ CaseRefuses t marks p f
    case_reads f =
        let skin = skin_reads t (inside_in marks) (inside_reads marks) p.row in
        let (forth, back) = refuses_at_reads t (inside_in marks) (adds p) p.row f in (
          λ e. refuses_map t p.row skin (other_reads t marks p known) f (forth e),
          λ x. back (refuses_map t p.row (λ c. Iff.symm (skin c)) (λ s. Iff.symm (other_reads t marks p known s)) f x),
        )

  answers_read : Reads (answer_tests t marks p) (answer_conditions t marks p)
  unfolding answer_tests case_tests outer
  answers_read = (
    given_reads (not_reads_le p.row t.rows),
    λ _. (
      given_reads kinds,
      λ passed. (
        given_reads (holds_reads t p.row 0),
        λ _. (
          given_reads (Iff.trans (other_side_reads (adds p) (inside_in marks) p.row) (other_reads t marks p (known passed) p.row)),
          λ _. (given_reads (case_reads (known passed) 0), λ _. (given_reads (case_reads (known passed) 1), λ _. (given_reads (case_reads (known passed) 2), λ _. tt))),
        ),
      ),
    ),
  )
    where
      not_reads_le : (a b : ℕ) → (not (ltb a b) ≡ true) ↔ (b ≤ a)
      not_reads_le a b = (λ e. ltb-false a b (not-true (ltb a b) e), λ l. ap not (le-ltb a b l))

      kinds : (not (eqb p.kind 1 || eqb p.kind 2) ≡ true) ↔ ((p.kind ≢ 1) × (p.kind ≢ 2))
      kinds = (
        λ e.
            let neither = not-true (eqb p.kind 1 || eqb p.kind 2) e in
            (eqb-false p.kind 1 (or_no_first (eqb p.kind 1) (eqb p.kind 2) neither), eqb-false p.kind 2 (or_no_second (eqb p.kind 1) (eqb p.kind 2) neither)),
        λ (a, b). rw (ne_eqb p.kind 1 a, ne_eqb p.kind 2 b),
      )

      known : given (not (eqb p.kind 1 || eqb p.kind 2)) ≡ none → (p.kind ≡ 1) ⊎ (p.kind ≡ 2)
      known off =
          (or_reads (eqb_reads p.kind 1) (eqb_reads p.kind 2)).0
          (not-false (eqb p.kind 1 || eqb p.kind 2) (given_none (not (eqb p.kind 1 || eqb p.kind 2)) off))

  -- answer 1 + i is given exactly if it applies and none before it does
  pub answer_exactly : (i : ℕ) → i < 7 → (answer t marks p ≡ 1 + i) ↔ ((place : ℕ) × FirstOf (answer_conditions t marks p) i place)
  unfolding answer answer_tests case_tests
  answer_exactly i l = code_reads 1 (zero-lt-suc 0) (answer_tests t marks p) (answer_conditions t marks p) answers_read i l

  -- answer 0 exactly if none applies
  pub taken_exactly : (answer t marks p ≡ 0) ↔ ((i place : ℕ) → condition_at (answer_conditions t marks p) i place → ⊥)
  unfolding answer
  taken_exactly = none_reads 1 (zero-lt-suc 0) (answer_tests t marks p) (answer_conditions t marks p) answers_read
