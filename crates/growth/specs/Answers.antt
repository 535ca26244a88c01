-- One proposal by its tests, and proposals one after the other.
use Rattle.std.specs.Prelude.{◌≡◌, refl, ◌≢◌, Bool, true, false, not, ◌||◌, cond, List, [], ◌∷◌, ◌++◌, ℕ, ◌+◌, ◌*◌, ◌/◌, ◌≤◌, ◌<◌, eqb, ltb, length, set}
use Rattle.std.proofs.Math.Path.{sym}
use Rattle.std.proofs.Common.{ap, ◌∙◌, le_antisymm, arith}
use borrow.Author.Tests.{ne_eqb, lt-ltb, le-ltb, ltb-true, not-false}
use Rattle.rules.specs.Below.{bit, gather, tabulate}
use Rattle.rules.specs.Table.{Table, holds}
use Rattle.rules.specs.Cases.{other_side, case_answer}
use Rattle.rules.specs.Proposals.{Proposal, inside_in, adds, answer, marks_after, answers_to, final_marks, taken}
use Rattle.rules.specs.Work.{work_area}
use Rattle.rules.specs.Job.{proposal_in, written}
use Rattle.rules.specs.Words.{word}
use Rattle.rules.specs.Laws.Lists.{tabulate_more, tabulate_length}
use Rattle.rules.specs.Laws.Count.{bit_small}
use Rattle.rules.specs.Laws.Proposals.{answer_is, final_more, answers_length, taken_more, taken_few}
use Rattle.rules.proofs.Laws.Proposals.{answers_more}
use Rattle.rules.specs.Laws.Written.{written_none, written_snoc}

abbrev pub proposal : ℕ → ℕ → Proposal
proposal row kind = record { row = row; kind = kind }

-- the proposals of a section: as many as it has eight bytes
unfoldable pub proposals_in : List ℕ → List Proposal
proposals_in bytes = tabulate (length bytes / 8) (proposal_in bytes)

-- ---- the tests of one proposal, first match decides

none_given : (a b c d : Bool) (x : ℕ) → cond a 1 (cond b 2 (cond c 3 (cond d 4 x))) ≡ 0 → (a ≡ false) × (d ≡ false)
none_given true b c d x e = absurd (omega arith)
none_given false true c d x e = absurd (omega arith)
none_given false false true d x e = absurd (omega arith)
none_given false false false true x e = absurd (omega arith)
none_given false false false false x e = (refl, refl)

-- a proposal that is taken names a row, and one that is not on the other side already
taken_row : (t : Table) (marks : List ℕ) (p : Proposal) → answer t marks p ≡ 0 → (p.row < t.rows) × (other_side (adds p) (inside_in marks) p.row ≡ false)
taken_row t marks p e =
    let (row, here) = none_given (not (ltb p.row t.rows)) (not (eqb p.kind 1 || eqb p.kind 2)) (holds t p.row 0) (other_side (adds p) (inside_in marks) p.row) (case_answer t (inside_in marks) (adds p) p.row) (sym (answer_is t marks p) ∙ e) in
    (ltb-true p.row t.rows (not-false (ltb p.row t.rows) row), here)

-- each answer where those before it do not apply
module _ (t : Table) (marks : List ℕ) (row kind : ℕ) where
  pub no_such_row : t.rows ≤ row → 1 ≡ answer t marks (proposal row kind)
  no_such_row l = sym (answer_is t marks (proposal row kind) ∙ rw (le-ltb row t.rows l))

  module _ (l : row < t.rows) where
    pub no_such_kind : not (eqb kind 1 || eqb kind 2) ≡ true → 2 ≡ answer t marks (proposal row kind)
    no_such_kind e = sym (answer_is t marks (proposal row kind) ∙ rw (lt-ltb row t.rows l, e))

    module _ (known : not (eqb kind 1 || eqb kind 2) ≡ false) {infinite : Bool} (ei : infinite ≡ holds t row 0) where
      pub outer_row : infinite ≡ true → 3 ≡ answer t marks (proposal row kind)
      outer_row e = sym (answer_is t marks (proposal row kind) ∙ rw (lt-ltb row t.rows l, known, sym ei ∙ e))

      module _ (finite : infinite ≡ false) {adding : Bool} (ea : adding ≡ eqb kind 1) {there : Bool} (et : there ≡ other_side adding (inside_in marks) row) where
        pub there_already : there ≡ true → 4 ≡ answer t marks (proposal row kind)
        unfolding adds
        there_already e = sym (answer_is t marks (proposal row kind) ∙ rw (lt-ltb row t.rows l, known, sym ei ∙ finite, ← ea, sym et ∙ e))

        pub by_cases : there ≡ false → {given : ℕ} → given ≡ case_answer t (inside_in marks) adding row → given ≡ answer t marks (proposal row kind)
        unfolding adds
        by_cases here eg = eg ∙ sym (answer_is t marks (proposal row kind) ∙ rw (lt-ltb row t.rows l, known, sym ei ∙ finite, ← ea, sym et ∙ here))

-- ---- one proposal of a section

module _ (t : Table) (marks bytes : List ℕ) (k : ℕ) {row kind given : ℕ} (er : row ≡ word 4 bytes (8 * k)) (ek : kind ≡ word 4 bytes (8 * k + 4))
    (eg : given ≡ answer t marks (proposal row kind)) where
  pub given_is : given ≡ answer t marks (proposal_in bytes k)
  unfolding proposal_in
  given_is = eg ∙ rw (er, ek)

  pub given_row : given ≡ 0 → {adding : Bool} → adding ≡ eqb kind 1 → (row < t.rows) × (other_side adding (inside_in marks) row ≡ false)
  unfolding adds
  given_row e ea = rw ea (taken_row t marks (proposal row kind) (sym eg ∙ e))

  -- taken: the row goes to the other side
  module _ (e : given ≡ 0) where
    pub one_taken : 1 ≡ bit (eqb (answer t marks (proposal_in bytes k)) 0)
    unfolding bit
    one_taken = rw (← given_is, e)

    pub row_taken : {adding : Bool} → adding ≡ eqb kind 1 → {marks' : List ℕ} → marks' ≡ set marks row (bit adding) → marks' ≡ marks_after t marks (proposal_in bytes k)
    unfolding marks_after adds proposal_in
    row_taken ea em = em ∙ rw (ea, ← given_is, e, er, ek)

  -- refused: the marks stay
  module _ (ne : given ≢ 0) where
    pub none_taken : 0 ≡ bit (eqb (answer t marks (proposal_in bytes k)) 0)
    unfolding bit
    none_taken = rw (← given_is, ne_eqb given 0 ne)

    pub row_kept : marks ≡ marks_after t marks (proposal_in bytes k)
    unfolding marks_after
    row_kept = rw (← given_is, ne_eqb given 0 ne)

-- ---- proposals one after the other

-- the first k proposals of a section
abbrev pub proposals_to : List ℕ → ℕ → List Proposal
proposals_to bytes k = tabulate k (proposal_in bytes)

module _ (t : Table) (ids : ℕ) (bytes marks₀ answers₀ : List ℕ) where
  -- k proposals were answered, and the work area is that for the marks which these left
  pub record Answered (k count : ℕ) (answers marks work : List ℕ) : Type 0 where
    pub upto : k ≤ length bytes / 8
    pub counted : count ≡ taken (answers_to t marks₀ (proposals_to bytes k))
    pub given : answers ≡ written (answers_to t marks₀ (proposals_to bytes k)) answers₀
    pub standing : marks ≡ final_marks t marks₀ (proposals_to bytes k)
    pub area : work ≡ work_area t ids marks

  answers_so_far : (k : ℕ) → length (answers_to t marks₀ (proposals_to bytes k)) ≡ k
  answers_so_far k = answers_length t marks₀ (proposals_to bytes k) ∙ tabulate_length k (proposal_in bytes)

  pub answering_begins : {work : List ℕ} → work ≡ work_area t ids marks₀ → Answered 0 0 answers₀ marks₀ work
  unfolding tabulate gather answers_to final_marks taken
  answering_begins e = record { upto = omega arith; counted = refl; given = written_none answers₀; standing = refl; area = e }

  module _ {k count : ℕ} {answers marks work : List ℕ} (a : Answered k count answers marks work) where
    pub taken_small : {r : ℕ} → r ≡ bit (eqb (answer t marks (proposal_in bytes k)) 0) → count + r ≤ k + 1
    unfolding bit
    taken_small e =
        omega (arith, e, bit_small (eqb (answer t marks (proposal_in bytes k)) 0), a.counted, taken_few (answers_to t marks₀ (proposals_to bytes k)), answers_so_far k)

    module _ (room : length bytes / 8 ≤ length answers₀) where
      pub answering_turn : k < length bytes / 8 → {r : ℕ} {answers' marks' work' : List ℕ}
          → (r ≡ bit (eqb (answer t marks (proposal_in bytes k)) 0)) × (answers' ≡ set answers k (answer t marks (proposal_in bytes k)))
          × (marks' ≡ marks_after t marks (proposal_in bytes k)) × (work' ≡ work_area t ids marks') → Answered (k + 1) (count + r) answers' marks' work'
      answering_turn l (er, ea, em, ew) = record {
        upto = omega arith;
        counted = rw (one_more, taken_more, er, a.counted);
        given = rw (one_more, ea, a.given) (ap (λ (n : ℕ). set (written before answers₀) n new) (sym (answers_so_far k)) ∙ written_snoc before new answers₀ (rw (answers_so_far k) (omega arith)));
        standing = em ∙ ap (λ (m : List ℕ). marks_after t m (proposal_in bytes k)) a.standing ∙ sym (final_more t marks₀ (proposals_to bytes k) (proposal_in bytes k))
            ∙ ap (final_marks t marks₀) (sym (tabulate_more k (proposal_in bytes)));
        area = ew;
      }
        where
          before : List ℕ
          before = answers_to t marks₀ (proposals_to bytes k)

          new : ℕ
          new = answer t marks (proposal_in bytes k)

          one_more : answers_to t marks₀ (proposals_to bytes (k + 1)) ≡ before ++ new ∷ []
          one_more =
              ap (answers_to t marks₀) (tabulate_more k (proposal_in bytes)) ∙ answers_more t marks₀ (proposals_to bytes k) (proposal_in bytes k)
              ∙ ap (λ (m : List ℕ). before ++ answer t m (proposal_in bytes k) ∷ []) (sym a.standing)

    pub answering_ends : length bytes / 8 ≤ k
        → (count ≡ taken (answers_to t marks₀ (proposals_in bytes))) × (answers ≡ written (answers_to t marks₀ (proposals_in bytes)) answers₀) × (marks ≡ final_marks t marks₀ (proposals_in bytes))
        × (work ≡ work_area t ids marks)
    unfolding proposals_in
    answering_ends l = rw (le_antisymm l a.upto) (a.counted, a.given, a.standing, a.area)
