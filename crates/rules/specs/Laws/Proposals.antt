-- Laws of answering: one proposal by its tests, and a list of proposals, one part after the other.
use Rattle.std.specs.Prelude.{◌≡◌, ◌≢◌, Bool, ◌||◌, cond, ltb, length, get_or, set, take}
use Rattle.std.proofs.Math.Path.{refl, ap}
use Rattle.std.proofs.Common.{◌∙◌, add_comm, not-suc-le-zero, le_of_suc-le-suc, arith, length-set, get_or-set_same, get_or-set_other}
use Rattle.std.proofs.Math.Logic.{⊎_elim}
use Rattle.std.proofs.Math.Bool.{true, false, not}
use mathlib.Core.List.{List, [], ◌∷◌, ◌++◌}
use Prim.Native.Nat.{ℕ, zero, suc, ◌+◌, ◌≤◌, ◌<◌}
use Rattle.std.proofs.Math.Dec.{eqb}
use Rattle.rules.specs.Below.{bit}
use Rattle.rules.specs.Table.{Table, holds, outer}
use Rattle.rules.specs.Cases.{other_side, case_answer}
use Rattle.rules.specs.Proposals.{Proposal, inside_in, adds, answer_tests, answer, marks_after, answers_to, final_marks, taken}
use Rattle.rules.specs.Laws.Truth.{true_or_false}
use Rattle.rules.specs.Laws.Count.{bit_small}
use Rattle.rules.specs.Laws.First.{given_codes}

module _ (t : Table) (marks : List ℕ) (p : Proposal) where
  -- the tests 1 to 4, and behind them the five cases
  pub answer_is : answer t marks p
      ≡ cond (not (ltb p.row t.rows)) 1 (cond (not (eqb p.kind 1 || eqb p.kind 2)) 2 (cond (holds t p.row 0) 3
      (cond (other_side (adds p) (inside_in marks) p.row) 4 (case_answer t (inside_in marks) (adds p) p.row))))
  unfolding answer answer_tests outer
  answer_is = given_codes 1 (not (ltb p.row t.rows) ∷ not (eqb p.kind 1 || eqb p.kind 2) ∷ holds t p.row 0 ∷ other_side (adds p) (inside_in marks) p.row ∷ []) _

module _ (t : Table) where
  pub final_append : (marks : List ℕ) (xs ys : List Proposal) → final_marks t marks (xs ++ ys) ≡ final_marks t (final_marks t marks xs) ys
  unfolding final_marks
  final_append marks [] ys = refl
  final_append marks (p ∷ xs) ys = final_append (marks_after t marks p) xs ys

  pub answers_append : (marks : List ℕ) (xs ys : List Proposal) → answers_to t marks (xs ++ ys) ≡ answers_to t marks xs ++ answers_to t (final_marks t marks xs) ys
  unfolding answers_to final_marks
  answers_append marks [] ys = refl
  answers_append marks (p ∷ xs) ys = ap (λ (l : List ℕ). answer t marks p ∷ l) (answers_append (marks_after t marks p) xs ys)

  -- one answer for each proposal
  pub answers_length : (marks : List ℕ) (ps : List Proposal) → length (answers_to t marks ps) ≡ length ps
  unfolding answers_to
  answers_length marks [] = refl
  answers_length marks (p ∷ ps) = rw (answers_length (marks_after t marks p) ps)

  -- each is judged on the marks then standing
  pub answer_at : (marks : List ℕ) (ps : List Proposal) (d : Proposal) (k : ℕ) → k < length ps → get_or (answers_to t marks ps) k 0 ≡ answer t (final_marks t marks (take k ps)) (get_or ps k d)
  unfolding answers_to final_marks
  answer_at marks [] d k l = absurd (not-suc-le-zero l)
  answer_at marks (p ∷ ps) d zero l = refl
  answer_at marks (p ∷ ps) d (suc k) l = answer_at (marks_after t marks p) ps d k (le_of_suc-le-suc l)

  -- no mark is added or lost
  marks_kept : (marks : List ℕ) (p : Proposal) → length (marks_after t marks p) ≡ length marks
  unfolding marks_after
  marks_kept marks p =
      ⊎_elim (λ (e : eqb (answer t marks p) 0 ≡ true). rw e (length-set marks p.row (bit (adds p)))) (λ (e : eqb (answer t marks p) 0 ≡ false). rw e)
      (true_or_false (eqb (answer t marks p) 0))

  pub final_length : (marks : List ℕ) (ps : List Proposal) → length (final_marks t marks ps) ≡ length marks
  unfolding final_marks
  final_length marks [] = refl
  final_length marks (p ∷ ps) = final_length (marks_after t marks p) ps ∙ marks_kept marks p

  -- one proposal more
  pub final_more : (marks : List ℕ) (ps : List Proposal) (p : Proposal) → final_marks t marks (ps ++ p ∷ []) ≡ marks_after t (final_marks t marks ps) p
  unfolding final_marks
  final_more marks ps p = final_append marks ps (p ∷ [])

pub taken_more : (xs : List ℕ) (a : ℕ) → taken (xs ++ a ∷ []) ≡ taken xs + bit (eqb a 0)
unfolding taken
taken_more [] a = add_comm (bit (eqb a 0)) 0
taken_more (x ∷ xs) a = rw (taken_more xs a) (omega arith)

-- no more are taken than are answered
pub taken_few : (xs : List ℕ) → taken xs ≤ length xs
unfolding taken
taken_few [] = omega arith
taken_few (x ∷ xs) = omega (arith, taken_few xs, bit_small (eqb x 0))

-- ---- a mark that is set

module _ (marks : List ℕ) (r : ℕ) where
  pub set_inside : (b : Bool) → r < length marks → inside_in (set marks r (bit b)) r ≡ b
  unfolding inside_in bit
  set_inside b l = ap (λ (m : ℕ). eqb m 1) (get_or-set_same marks r (bit b) 0 l) ∙ is_one b
    where
      is_one : (b : Bool) → eqb (bit b) 1 ≡ b
      is_one true = refl
      is_one false = refl

  pub set_elsewhere : (mark s : ℕ) → s ≢ r → inside_in (set marks r mark) s ≡ inside_in marks s
  unfolding inside_in
  set_elsewhere mark s ne = ap (λ (m : ℕ). eqb m 1) (get_or-set_other marks r s mark 0 ne)
