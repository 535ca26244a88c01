-- Proposals: each answer, the marks after it, and what is run backwards.
use Rattle.std.specs.Prelude.{◌≡◌, refl, ◌⊎◌, ◌↔◌, ◌≢◌, Bool, true, false, not, cond, eqb, length, set, drop, replicate}
use Rattle.std.proofs.Common.{sym, ap₂, ◌∙◌, inl, inr, lt_of_not-le, not-le_of_lt, arith, lit<, length-append, length-set, get_or-set_same, get_or-set_other, eq-eqb, ne_eqb, lt-ltb}
use Rattle.std.proofs.Math.Path.{ap, subst}
use Rattle.std.proofs.Math.Logic.{⊎_elim}
use Rattle.std.proofs.Math.Bool.{not-not}
use mathlib.Core.List.Memᴰ
use mathlib.Core.List.{List, [], ◌∷◌, ◌++◌, map, reverse, reverse-cons}
use Prim.Native.Nat.{ℕ, zero, suc, ◌+◌, ◌-◌, ◌≤◌, ◌<◌}
use Rattle.std.proofs.Math.ListN.{get_or}
use Rattle.std.proofs.lemmas.List.{length-map, length-reverse, replicate-append-replicate}
use Rattle.rules.specs.Below.{bit, only}
use Rattle.rules.specs.Table.{Table, holds}
use Rattle.rules.specs.Cases.{other_side, triangles_on_skin, passes, case_answer}
use Rattle.rules.specs.Proposals.{Proposal, inside_in, adds, answer, RefusedByCases, marks_after, answers_to, final_marks, taken}
use Rattle.rules.specs.Laws.Truth.{is_false, same_or_not, or_reads, eqb_reads}
use Rattle.rules.specs.Laws.Lists.{Among, only_length}
use Rattle.rules.proofs.Laws.Cases.{passed_exactly, refused_exactly, refused_at_exactly}
use Rattle.rules.specs.Laws.Proposals.{answer_is, answers_append, final_append, set_inside, set_elsewhere}
use Rattle.rules.specs.Laws.First.{condition_at}
use Rattle.rules.specs.Reading.Rows.{Holds, holds_reads}
use Rattle.rules.specs.Reading.Outer.{OuterAlike}
use Rattle.rules.specs.Reading.Answers.{answer_conditions, other_side_reads, other_reads}
use Rattle.rules.proofs.Reading.Answers.{answer_exactly, taken_exactly}
use Rattle.manifold.specs.Facet.{FlipAt, not_differs, differs_not}

-- ---- a flipped mark

-- the marks with the named one as the proposal asks
abbrev pub flipped : List ℕ → Proposal → List ℕ
flipped marks p = set marks p.row (bit (adds p))

pub flip_at : (marks : List ℕ) (p : Proposal) → p.row < length marks → inside_in marks p.row ≡ not (adds p)
    → FlipAt (inside_in marks) (inside_in (flipped marks p)) p.row
flip_at marks p l e = record {
  named = set_inside marks p.row (adds p) l ∙ sym (not-not (adds p)) ∙ ap not (sym e);
  others = set_elsewhere marks p.row (bit (adds p));
}

-- ---- a proposal that passes tests 1 to 4

-- none of the answers 1 to 4 applies
abbrev pub PassesEarlier : Table → List ℕ → Proposal → Type 0
PassesEarlier t marks p = (i : ℕ) → i < 4 → (place : ℕ) → condition_at (answer_conditions t marks p) i place → ⊥

-- what that says
pub record Eligible (t : Table) (marks : List ℕ) (p : Proposal) : Type 0 where
  pub row_below : p.row < t.rows
  pub kind_known : (p.kind ≡ 1) ⊎ (p.kind ≡ 2)
  pub finite : Holds t p.row 0 → ⊥
  pub this_side : inside_in marks p.row ≡ not (adds p)

pub passes_earlier : (t : Table) (marks : List ℕ) (p : Proposal) → PassesEarlier t marks p ↔ Eligible t marks p
passes_earlier t marks p = (forth, back)
  where
    forth : PassesEarlier t marks p → Eligible t marks p
    forth off = record {
      row_below = lt_of_not-le (λ l. off 0 (lit< tt) 0 (l, refl));
      kind_known = known;
      finite = λ h. off 2 (lit< tt) 0 (h, refl);
      this_side = sym (differs_not (adds p) (inside_in marks p.row) (λ e. off 3 (lit< tt) 0 ((other_reads t marks p known p.row).0 (sym e), refl)));
    }
      where
        known : (p.kind ≡ 1) ⊎ (p.kind ≡ 2)
        known = ⊎_elim inl (λ n₁. ⊎_elim inr (λ n₂. absurd (off 1 (lit< tt) 0 ((n₁, n₂), refl))) (same_or_not p.kind 2)) (same_or_not p.kind 1)

    back : Eligible t marks p → PassesEarlier t marks p
    back x zero l place (r, _) = not-le_of_lt x.row_below r
    back x (suc zero) l place ((n₁, n₂), _) = ⊎_elim n₁ n₂ x.kind_known
    back x (suc (suc zero)) l place (h, _) = x.finite h
    back x (suc (suc (suc zero))) l place (o, _) = not_differs (adds p) (adds p) refl (sym x.this_side ∙ (other_reads t marks p x.kind_known p.row).1 o)
    back x (suc (suc (suc (suc i)))) l place c = absurd (omega arith)

-- ---- answers by the five cases

module _ (t : Table) (marks : List ℕ) (p : Proposal) where
  -- a taken proposal passes all tests, and one that the five cases refuse passes those before
  pub taken_earlier : answer t marks p ≡ 0 → PassesEarlier t marks p
  taken_earlier a i _ = (taken_exactly t marks p).0 a i

  pub refused_earlier : RefusedByCases (answer t marks p) → PassesEarlier t marks p
  refused_earlier (low, high) i few =
      let (_, x) = (answer_exactly t marks p (answer t marks p - 1) (omega (arith, low, high))).0 (omega (arith, low)) in
      x.none_before i (omega (arith, few, low))

  module _ (off : PassesEarlier t marks p) where
    by_cases : answer t marks p ≡ case_answer t (inside_in marks) (adds p) p.row
    by_cases =
        let x = (passes_earlier t marks p).0 off in
        answer_is t marks p
        ∙ rw (
          lt-ltb p.row t.rows x.row_below,
          (or_reads (eqb_reads p.kind 1) (eqb_reads p.kind 2)).1 x.kind_known,
          is_false (holds t p.row 0) (λ e. x.finite ((holds_reads t p.row 0).0 e)),
          is_false (other_side (adds p) (inside_in marks) p.row)
              (λ e. not_differs (adds p) (adds p) refl (sym x.this_side ∙ (other_side_reads (adds p) (inside_in marks) p.row).0 e)),
        )

    pub taken_passes : (answer t marks p ≡ 0) ↔ (passes t (inside_in marks) (adds p) p.row ≡ true)
    taken_passes = rw by_cases (passed_exactly t (inside_in marks) (adds p) p.row)

    pub refused_passes : RefusedByCases (answer t marks p) ↔ (passes t (inside_in marks) (adds p) p.row ≡ false)
    refused_passes = rw by_cases (refused_exactly t (inside_in marks) (adds p) p.row)

    pub refused_at_passes : (f : ℕ) → (answer t marks p ≡ 5 + f) ↔ ((triangles_on_skin t (inside_in marks) p.row ≡ f) × (passes t (inside_in marks) (adds p) p.row ≡ false))
    refused_at_passes f = rw by_cases (refused_at_exactly t (inside_in marks) (adds p) p.row f)

  -- Only answer 0 changes a mark, the named one.
  pub after_taken : answer t marks p ≡ 0 → marks_after t marks p ≡ flipped marks p
  unfolding marks_after
  after_taken a = rw a

  pub after_refused : answer t marks p ≢ 0 → marks_after t marks p ≡ marks
  unfolding marks_after
  after_refused ne = rw (ne_eqb (answer t marks p) 0 ne)

  -- an outer row keeps its mark
  outer_stays : (r : ℕ) → Holds t r 0 → get_or (marks_after t marks p) r 0 ≡ get_or marks r 0
  outer_stays r outer =
      ⊎_elim
      (λ a. ap (λ (m : List ℕ). get_or m r 0) (after_taken a)
      ∙ get_or-set_other marks p.row r (bit (adds p)) 0 (λ (e : r ≡ p.row). taken_earlier a 2 (lit< tt) 0 (subst (λ (s : ℕ). Holds t s 0) e outer, refl)))
      (λ ne. ap (λ (m : List ℕ). get_or m r 0) (after_refused ne)) (same_or_not (answer t marks p) 0)

pub outer_kept : (t : Table) (marks : List ℕ) (ps : List Proposal) (r : ℕ) → Holds t r 0 → get_or (final_marks t marks ps) r 0 ≡ get_or marks r 0
unfolding final_marks
outer_kept t marks [] r outer = refl
outer_kept t marks (p ∷ ps) r outer = outer_kept t (marks_after t marks p) ps r outer ∙ outer_stays t marks p r outer

-- so outer rows that are alike stay so
pub alike_kept : (t : Table) (marks : List ℕ) (ps : List Proposal) → OuterAlike t marks → OuterAlike t (final_marks t marks ps)
alike_kept t marks ps alike r s lr ls o p = outer_kept t marks ps r o ∙ alike r s lr ls o p ∙ sym (outer_kept t marks ps s p)

-- ---- backwards, said

-- those of the proposals whose answer is 0, in order
unfoldable pub taken_of : List ℕ → List Proposal → List Proposal
taken_of [] ps = []
taken_of (a ∷ answers) [] = []
taken_of (a ∷ answers) (p ∷ ps) = only (eqb a 0) p ++ taken_of answers ps

-- add and remove exchanged
unfoldable pub exchanged : Proposal → Proposal
exchanged p = record { row = p.row; kind = cond (adds p) 2 1 }

-- the taken ones, reversed, add and remove exchanged
unfoldable pub undoing : List ℕ → List Proposal → List Proposal
undoing answers ps = reverse (map exchanged (taken_of answers ps))

-- what stands behind the answers does not matter
pub undoing_front : (xs ys : List ℕ) (ps : List Proposal) → length xs ≡ length ps → undoing (xs ++ ys) ps ≡ undoing xs ps
unfolding undoing taken_of
undoing_front xs ys ps e = ap (λ (qs : List Proposal). reverse (map exchanged qs)) (front xs ps e)
  where
    front : (xs : List ℕ) (ps : List Proposal) → length xs ≡ length ps → taken_of (xs ++ ys) ps ≡ taken_of xs ps
    front [] [] e = stop ys
      where
        stop : (ys : List ℕ) → taken_of ys [] ≡ []
        stop [] = refl
        stop (y ∷ ys) = refl
    front [] (p ∷ ps) e = absurd (omega arith)
    front (x ∷ xs) [] e = absurd (omega arith)
    front (x ∷ xs) (p ∷ ps) e = ap (λ (qs : List Proposal). only (eqb x 0) p ++ qs) (front xs ps (omega arith))

-- there are as many as were taken
pub undoing_length : (answers : List ℕ) (ps : List Proposal) → length answers ≡ length ps → length (undoing answers ps) ≡ taken answers
unfolding undoing taken_of taken
undoing_length answers ps e = length-reverse (map exchanged (taken_of answers ps)) ∙ length-map (taken_of answers ps) exchanged ∙ as_many answers ps e
  where
    as_many : (answers : List ℕ) (ps : List Proposal) → length answers ≡ length ps → length (taken_of answers ps) ≡ taken answers
    as_many [] ps e = refl
    as_many (a ∷ answers) [] e = absurd (omega arith)
    as_many (a ∷ answers) (p ∷ ps) e = length-append (only (eqb a 0) p) (taken_of answers ps) ∙ omega (arith, only_length (eqb a 0) p, as_many answers ps (omega arith))

module _ (t : Table) where
  -- all of them get answer 0, and leave these marks
  abbrev pub AllTaken : List ℕ → List Proposal → List ℕ → Type 0
  AllTaken marks ps left = (answers_to t marks ps ≡ replicate (length ps) 0) × (final_marks t marks ps ≡ left)

  pub all_taken_append : (marks between left : List ℕ) (xs ys : List Proposal) → AllTaken marks xs between → AllTaken between ys left → AllTaken marks (xs ++ ys) left
  all_taken_append marks between left xs ys (a, m) (b, n) = (
    answers_append t marks xs ys
        ∙ ap₂ (λ (u v : List ℕ). u ++ v) a (ap (λ (k : List ℕ). answers_to t k ys) m ∙ b)
        ∙ replicate-append-replicate (length xs) (length ys) 0
        ∙ ap (λ (k : ℕ). replicate k 0) (sym (length-append xs ys)),
    final_append t marks xs ys ∙ ap (λ (k : List ℕ). final_marks t k ys) m ∙ n,
  )

  -- proposals that are taken name rows of the table, and a kind
  pub taken_known : (marks : List ℕ) (ps : List Proposal) → answers_to t marks ps ≡ replicate (length ps) 0
      → (p : Proposal) → Among p ps → (p.row < t.rows) × (p.kind ≤ 2)
  unfolding answers_to
  taken_known marks [] e p m = absurd (Memᴰ.not-nil m)
  taken_known marks (q ∷ ps) e p m =
      let here = (passes_earlier t marks q).0 (taken_earlier t marks q (ap (λ (xs : List ℕ). get_or xs 0 0) e)) in
      ⊎_elim (λ (same : p ≡ q). rw same (here.row_below, ⊎_elim (λ k. omega arith) (λ k. omega arith) here.kind_known))
      (taken_known (marks_after t marks q) ps (ap (drop 1) e) p) (Memᴰ.cases_cons m)

  abbrev undoing_from : List ℕ → List Proposal → List Proposal
  undoing_from marks ps = undoing (answers_to t marks ps) ps

  pub undoing_taken : (marks : List ℕ) (p : Proposal) (ps : List Proposal) → answer t marks p ≡ 0 → undoing_from marks (p ∷ ps) ≡ undoing_from (marks_after t marks p) ps ++ (exchanged p ∷ [])
  unfolding undoing taken_of only answers_to
  undoing_taken marks p ps a =
      let rest = taken_of (answers_to t (marks_after t marks p) ps) ps in
      ap (λ (b : Bool). reverse (map exchanged (only b p ++ rest))) (eq-eqb (answer t marks p) 0 a) ∙ reverse-cons (exchanged p) (map exchanged rest)

  pub undoing_refused : (marks : List ℕ) (p : Proposal) (ps : List Proposal) → answer t marks p ≢ 0 → undoing_from marks (p ∷ ps) ≡ undoing_from (marks_after t marks p) ps
  unfolding undoing taken_of only answers_to
  undoing_refused marks p ps ne =
      ap (λ (b : Bool). reverse (map exchanged (only b p ++ taken_of (answers_to t (marks_after t marks p) ps) ps))) (ne_eqb (answer t marks p) 0 ne)

pub exchanged_adds : (p : Proposal) → adds (exchanged p) ≡ not (adds p)
unfolding adds exchanged
exchanged_adds p = go (eqb p.kind 1)
  where
    go : (b : Bool) → eqb (cond b 2 1) 1 ≡ not b
    go true = refl
    go false = refl

pub exchanged_kind : (p : Proposal) → ((exchanged p).kind ≡ 1) ⊎ ((exchanged p).kind ≡ 2)
unfolding exchanged
exchanged_kind p = go (adds p)
  where
    go : (b : Bool) → (◌≡◌ {A = ℕ} (cond b 2 1) 1) ⊎ (◌≡◌ {A = ℕ} (cond b 2 1) 2)
    go true = inr refl
    go false = inl refl

-- a mark that is 0 or 1 is what it says
pub mark_back : (marks : List ℕ) (r : ℕ) → (get_or marks r 0 ≡ 0) ⊎ (get_or marks r 0 ≡ 1) → bit (inside_in marks r) ≡ get_or marks r 0
unfolding inside_in bit
mark_back marks r (inl z) = rw z
mark_back marks r (inr o) = rw o

-- ---- the promises

-- the marks of an accepted job: one for each row, each 0 or 1
pub record Marks (t : Table) (marks : List ℕ) : Type 0 where
  pub one_each : length marks ≡ t.rows
  pub binary : (r : ℕ) → r < t.rows → (get_or marks r 0 ≡ 0) ⊎ (get_or marks r 0 ≡ 1)

pub flipped_marks : (t : Table) (marks : List ℕ) → Marks t marks → (p : Proposal) → p.row < t.rows → Marks t (flipped marks p)
unfolding bit
flipped_marks t marks m p l = record {
  one_each = length-set marks p.row (bit (adds p)) ∙ m.one_each;
  binary = λ r lr.
      ⊎_elim (λ (e : r ≡ p.row). subst (λ (k : ℕ). (k ≡ 0) ⊎ (k ≡ 1)) (sym (ap (λ (i : ℕ). get_or (flipped marks p) i 0) e ∙ get_or-set_same marks p.row (bit (adds p)) 0 (subst (λ (n : ℕ). p.row < n) (sym m.one_each) l))) (zero_or_one (adds p)))
      (λ ne. subst (λ (k : ℕ). (k ≡ 0) ⊎ (k ≡ 1)) (sym (get_or-set_other marks p.row r (bit (adds p)) 0 ne)) (m.binary r lr)) (same_or_not r p.row);
}
  where
    zero_or_one : (b : Bool) → (bit b ≡ 0) ⊎ (bit b ≡ 1)
    zero_or_one true = inr refl
    zero_or_one false = inl refl
