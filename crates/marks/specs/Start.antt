-- What codes 10 to 12 look for, first match decides.
use Rattle.std.specs.Prelude.{◌≡◌, Option, Some, None, Result, Ok, Err, Bool, not, ◌&&◌, ◌||◌, List, ℕ, eqb, length, get_or}
use Rattle.std.proofs.Math.Path.{refl, sym, ap}
use Rattle.std.proofs.Common.{◌∙◌, eq-eqb}
use Rattle.std.proofs.Math.Bool.{and-false}
use Rattle.std.proofs.Math.Option.{none}
use Rattle.rules.specs.Below.{lowest}
use Rattle.rules.specs.First.{Verdict, first_match}
use Rattle.rules.specs.Table.{Table, holds, outer}
use Rattle.rules.specs.Skin.{ringless}
use Rattle.rules.specs.Proposals.{inside_in}
use Rattle.rules.specs.Job.{unlike, mark_tests}
use Rattle.rules.specs.Laws.Below.{searched_more}
use Rattle.rules.specs.Laws.First.{match_here, match_later, match_end}
use Rattle.rules.specs.Reading.Outer.{OuterFirst, lowest_first_row}
use Rattle.values.specs.Places.{place_of}
use Rattle.table.specs.Rows.{table_in, rows_in}
use Rattle.marks.specs.declared.Unfit.{Unfit}
use Rattle.marks.specs.declared.Unfit.TheVariants.{Mark, Outer, Vertex}

-- document 01's code and place
abbrev pub verdict_of : Result (Unit {0}) Unfit → Verdict
verdict_of (Ok _) = record { code = 0; place = 0 }
verdict_of (Err (Mark r)) = record { code = 10; place = r }
verdict_of (Err (Outer r)) = record { code = 11; place = r }
verdict_of (Err (Vertex v)) = record { code = 12; place = v }

abbrev pub bad_mark : List ℕ → ℕ → Bool
bad_mark marks r = not (eqb (get_or marks r 0) 0 || eqb (get_or marks r 0) 1)

-- Outer rows come first, so a row is unlike exactly if it holds id 0, as the code asks, and has not row 0's mark; row 0 is not.
module _ (t : Table) (marks : List ℕ) (first : OuterFirst t) where
  pub unlike_asked : (r : ℕ) {held : Bool} → held ≡ holds t r 0 → unlike t marks r ≡ (held && not (eqb (get_or marks r 0) (get_or marks 0 0)))
  unfolding unlike outer
  unlike_asked r e = rw (lowest_first_row t first, e)

  pub row_0_alike : lowest 1 (unlike t marks) ≡ none
  unfolding lowest
  row_0_alike = searched_more 0 (unlike t marks) refl (unlike_asked 0 refl ∙ rw (eq-eqb (get_or marks 0 0) (get_or marks 0 0) refl) (and-false (holds t 0 0)))

module _ (bytes marks : List ℕ) (ids : ℕ) (each : length marks ≡ rows_in bytes) (bad : Option ℕ) (looked : place_of bad ≡ lowest (length marks) (bad_mark marks)) where
  found_bad : lowest (rows_in bytes) (bad_mark marks) ≡ place_of bad
  found_bad = ap (λ (n : ℕ). lowest n (bad_mark marks)) (sym each) ∙ sym looked

  pub bad_found : {r : ℕ} → bad ≡ Some r → verdict_of (Err (Mark r)) ≡ first_match 10 (mark_tests (table_in bytes) ids marks)
  unfolding mark_tests
  bad_found {r} e = sym (match_here 10 _ _ r (found_bad ∙ ap place_of e))

  module _ (fine : bad ≡ None) (out : Option ℕ) (sought : place_of out ≡ lowest (rows_in bytes) (unlike (table_in bytes) marks)) where
    pub outer_found : {r : ℕ} → out ≡ Some r → verdict_of (Err (Outer r)) ≡ first_match 10 (mark_tests (table_in bytes) ids marks)
    unfolding mark_tests
    outer_found {r} e = sym (match_later 10 _ _ (found_bad ∙ ap place_of fine) ∙ match_here 11 _ _ r (sym sought ∙ ap place_of e))

    module _ (none : out ≡ None) (vertex : Option ℕ) (tried : place_of vertex ≡ lowest ids (ringless (table_in bytes) (inside_in marks) ids)) where
      pub ringless_found : {v : ℕ} → vertex ≡ Some v → verdict_of (Err (Vertex v)) ≡ first_match 10 (mark_tests (table_in bytes) ids marks)
      unfolding mark_tests
      ringless_found {v} e =
          sym (match_later 10 _ _ (found_bad ∙ ap place_of fine) ∙ match_later 11 _ _ (sym sought ∙ ap place_of none) ∙ match_here 12 _ _ v (sym tried ∙ ap place_of e))

      pub all_fit : vertex ≡ None → verdict_of (Ok tt) ≡ first_match 10 (mark_tests (table_in bytes) ids marks)
      unfolding mark_tests
      all_fit e =
          sym (match_later 10 _ _ (found_bad ∙ ap place_of fine) ∙ match_later 11 _ _ (sym sought ∙ ap place_of none) ∙ match_later 12 _ _ (sym tried ∙ ap place_of e)
          ∙ match_end 13)
