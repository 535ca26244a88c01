-- Answers to proposals, and the marks after them.
use Rattle.std.specs.Prelude.{ℕ, ◌+◌, ◌≤◌, Bool, not, ◌||◌, cond, List, [], ◌∷◌, eqb, ltb, get_or, set}
use Rattle.rules.specs.Below.{bit}
use Rattle.rules.specs.Table.{Table, outer}
use Rattle.rules.specs.First.{Test, given, first_match}
use Rattle.rules.specs.Cases.{other_side, case_tests}

-- a row number and a kind, 1 add or 2 remove
pub record Proposal : Type 0 where
  pub row : ℕ
  pub kind : ℕ

-- a mark is 1 inside, 0 outside
unfoldable pub inside_in : List ℕ → ℕ → Bool
inside_in marks r = eqb (get_or marks r 0) 1

unfoldable pub adds : Proposal → Bool
adds p = eqb p.kind 1

unfoldable pub answer_tests : Table → List ℕ → Proposal → List Test
answer_tests t marks p =
    -- 1: row number not below N
    (λ _. given (not (ltb p.row t.rows)))
    -- 2: kind not 1 or 2
    ∷ (λ _. given (not (eqb p.kind 1 || eqb p.kind 2)))
    -- 3: outer row
    ∷ (λ _. given (outer t p.row))
    -- 4: add of an inside row, remove of an outside row: it is on the other side already
    ∷ (λ _. given (other_side (adds p) (inside_in marks) p.row))
    -- 5, 6, 7: the five cases refuse, at f = 0, 1, 2
    ∷ case_tests t (inside_in marks) (adds p) p.row

unfoldable pub answer : Table → List ℕ → Proposal → ℕ
answer t marks p = (first_match 1 (answer_tests t marks p)).code

-- of an answer: 5, 6 or 7; the five cases refuse, though nothing before them does
abbrev pub RefusedByCases : ℕ → Type 0
RefusedByCases a = (5 ≤ a) × (a ≤ 7)

-- only answer 0 changes a mark, the named one
unfoldable pub marks_after : Table → List ℕ → Proposal → List ℕ
marks_after t marks p = cond (eqb (answer t marks p) 0) (set marks p.row (bit (adds p))) marks

-- ---- a list of proposals: each is judged on the marks then standing

unfoldable pub answers_to : Table → List ℕ → List Proposal → List ℕ
answers_to t marks [] = []
answers_to t marks (p ∷ ps) = answer t marks p ∷ answers_to t (marks_after t marks p) ps

unfoldable pub final_marks : Table → List ℕ → List Proposal → List ℕ
final_marks t marks [] = marks
final_marks t marks (p ∷ ps) = final_marks t (marks_after t marks p) ps

-- how many were taken: the answers that are 0
unfoldable pub taken : List ℕ → ℕ
taken [] = 0
taken (a ∷ rest) = bit (eqb a 0) + taken rest
