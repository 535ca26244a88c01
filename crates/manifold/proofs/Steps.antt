-- Proposals: each answer, every step, and backwards.
use Rattle.std.specs.Prelude.{◌≡◌, refl, ◌↔◌, ◌≢◌, true, false, not, length, set, take}
use Rattle.std.proofs.Common.{sym, ◌∙◌, set-set}
use Rattle.std.proofs.Math.Path.{ap, subst}
use Rattle.std.proofs.Math.Logic.{⊎_elim}
use mathlib.Core.List.{List, [], ◌∷◌}
use Prim.Native.Nat.{ℕ, ◌+◌, ◌<◌}
use Rattle.std.proofs.lemmas.List.{set-get_or}
use Rattle.rules.specs.Below.{bit}
use Rattle.rules.specs.Table.{Table}
use Rattle.rules.specs.Skin.{clean}
use Rattle.rules.specs.Cases.{triangles_on_skin, passes}
use Rattle.rules.specs.Proposals.{Proposal, inside_in, adds, answer, RefusedByCases, marks_after, answers_to, final_marks}
use Rattle.rules.specs.Laws.Truth.{same_or_not}
use Rattle.rules.specs.Reading.Closed.{Closed}
use Rattle.manifold.specs.Steps.{flipped, flip_at, PassesEarlier, Eligible, passes_earlier, taken_earlier, taken_passes, refused_passes, refused_at_passes, after_taken, after_refused, taken_of, exchanged, undoing, AllTaken, all_taken_append, undoing_taken, undoing_refused, exchanged_adds, exchanged_kind, mark_back, Marks, flipped_marks}
use Rattle.manifold.proofs.Decide.{cases_decide}

module _ (t : Table) (four : t.corners ≡ 4) {id_count : ℕ} (closed : Closed t id_count) where
  -- the skin of these marks is clean
  abbrev Clean : List ℕ → Type 0
  Clean marks = clean t (inside_in marks) id_count ≡ true

  -- the five cases pass exactly if the skin with the named mark flipped is clean
  decides : (marks : List ℕ) → Marks t marks → Clean marks → (p : Proposal) → PassesEarlier t marks p
      → passes t (inside_in marks) (adds p) p.row ≡ clean t (inside_in (flipped marks p)) id_count
  decides marks m e p off =
      let x = (passes_earlier t marks p).0 off in
      cases_decide t four closed (flip_at marks p (subst (λ (n : ℕ). p.row < n) (sym m.one_each) x.row_below) x.this_side) x.row_below (adds p) x.this_side e

  -- Of a proposal that passes tests 1 to 4 the answer is 0 exactly if the skin with the named mark flipped is clean, and that of the five cases exactly if it is not:
  -- 5 + f, for f triangles of its row on the skin.
  pub five_cases : (marks : List ℕ) → Marks t marks → Clean marks → (p : Proposal) → PassesEarlier t marks p
      → ((answer t marks p ≡ 0) ↔ (clean t (inside_in (flipped marks p)) id_count ≡ true))
      × (RefusedByCases (answer t marks p) ↔ (clean t (inside_in (flipped marks p)) id_count ≡ false))
      × ((f : ℕ) → (answer t marks p ≡ 5 + f) ↔ ((triangles_on_skin t (inside_in marks) p.row ≡ f) × (clean t (inside_in (flipped marks p)) id_count ≡ false)))
  five_cases marks m e p off =
      let same = decides marks m e p off in
      (rw (← same) (taken_passes t marks p off), rw (← same) (refused_passes t marks p off), λ f. rw (← same) (refused_at_passes t marks p off f))

  -- nothing clean is refused by the five cases
  pub nothing_clean_refused : (marks : List ℕ) → Marks t marks → Clean marks → (p : Proposal) → PassesEarlier t marks p → Clean (flipped marks p) → answer t marks p ≡ 0
  nothing_clean_refused marks m e p off c = (five_cases marks m e p off).0.1 c

  -- nothing unclean is taken
  pub nothing_unclean_taken : (marks : List ℕ) → Marks t marks → Clean marks → (p : Proposal) → answer t marks p ≡ 0 → Clean (flipped marks p)
  nothing_unclean_taken marks m e p a = (five_cases marks m e p (taken_earlier t marks p a)).0.0 a

  -- ---- every step

  one_step : (marks : List ℕ) → Marks t marks → Clean marks → (p : Proposal) → Marks t (marks_after t marks p) × Clean (marks_after t marks p)
  one_step marks m e p = ⊎_elim was_taken was_refused (same_or_not (answer t marks p) 0)
    where
      was_taken : answer t marks p ≡ 0 → Marks t (marks_after t marks p) × Clean (marks_after t marks p)
      was_taken a =
          subst (λ (n : List ℕ). Marks t n × Clean n) (sym (after_taken t marks p a))
          (flipped_marks t marks m p ((passes_earlier t marks p).0 (taken_earlier t marks p a)).row_below, nothing_unclean_taken marks m e p a)

      was_refused : answer t marks p ≢ 0 → Marks t (marks_after t marks p) × Clean (marks_after t marks p)
      was_refused ne = subst (λ (n : List ℕ). Marks t n × Clean n) (sym (after_refused t marks p ne)) (m, e)

  pub all_steps : (marks : List ℕ) → Marks t marks → Clean marks → (ps : List Proposal) → Marks t (final_marks t marks ps) × Clean (final_marks t marks ps)
  unfolding final_marks
  all_steps marks m e [] = (m, e)
  all_steps marks m e (p ∷ ps) = let (m', e') = one_step marks m e p in all_steps (marks_after t marks p) m' e' ps

  -- From a clean start the skin is clean after every prefix of any list of proposals.
  pub every_step : (marks : List ℕ) → Marks t marks → Clean marks → (ps : List Proposal) (k : ℕ) → Clean (final_marks t marks (take k ps))
  every_step marks m e ps k = (all_steps marks m e (take k ps)).1

  -- ---- backwards

  -- a taken proposal is taken back
  undo_one : (marks : List ℕ) → Marks t marks → Clean marks → (p : Proposal) → answer t marks p ≡ 0 → AllTaken t (flipped marks p) (exchanged p ∷ []) marks
  unfolding answers_to final_marks exchanged
  undo_one marks m e p a =
      (ap (λ (x : ℕ). x ∷ []) answer_0, after_taken t now (exchanged p) answer_0 ∙ restored)
    where
      now : List ℕ
      now = flipped marks p

      was : Eligible t marks p
      was = (passes_earlier t marks p).0 (taken_earlier t marks p a)

      in_list : p.row < length marks
      in_list = subst (λ (n : ℕ). p.row < n) (sym m.one_each) was.row_below

      restored : flipped now (exchanged p) ≡ marks
      restored =
          set-set marks p.row (bit (adds p)) (bit (adds (exchanged p)))
          ∙ ap (λ (x : ℕ). set marks p.row x) (ap bit (exchanged_adds p ∙ sym was.this_side) ∙ mark_back marks p.row (m.binary p.row was.row_below))
          ∙ set-get_or marks p.row 0

      may : Eligible t now (exchanged p)
      may = record {
        row_below = was.row_below;
        kind_known = exchanged_kind p;
        finite = was.finite;
        this_side = (flip_at marks p in_list was.this_side).named ∙ ap not was.this_side ∙ ap not (sym (exchanged_adds p));
      }

      answer_0 : answer t now (exchanged p) ≡ 0
      answer_0 =
          nothing_clean_refused now (flipped_marks t marks m p was.row_below) (nothing_unclean_taken marks m e p a) (exchanged p) ((passes_earlier t now (exchanged p)).1 may)
          (subst Clean (sym restored) e)

  -- Asked one after the other of the final marks, the taken ones, reversed, add and remove exchanged, all get answer 0 and leave the starting marks.
  pub backwards : (marks : List ℕ) → Marks t marks → Clean marks → (ps : List Proposal) → AllTaken t (final_marks t marks ps) (undoing (answers_to t marks ps) ps) marks
  unfolding final_marks taken_of undoing answers_to
  backwards marks m e [] = (refl, refl)
  backwards marks m e (p ∷ ps) =
      let (m', e') = one_step marks m e p in
      let rest = backwards (marks_after t marks p) m' e' ps in
      ⊎_elim
      (λ a. subst (λ (qs : List Proposal). AllTaken t (final_marks t (marks_after t marks p) ps) qs marks) (sym (undoing_taken t marks p ps a))
      (all_taken_append t (final_marks t (marks_after t marks p) ps) (marks_after t marks p) marks (undoing (answers_to t (marks_after t marks p) ps) ps) (exchanged p ∷ []) rest
      (subst (λ (k : List ℕ). AllTaken t k (exchanged p ∷ []) marks) (sym (after_taken t marks p a)) (undo_one marks m e p a))))
      (λ ne. subst (λ (qs : List Proposal). AllTaken t (final_marks t (marks_after t marks p) ps) qs marks) (sym (undoing_refused t marks p ps ne))
      (rest.0, rest.1 ∙ after_refused t marks p ne)) (same_or_not (answer t marks p) 0)
