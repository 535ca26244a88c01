-- Codes 13 to 15, first match decides.
use Rattle.std.specs.Prelude.{◌≡◌, Option, Some, None, Result, Ok, Err, List, ℕ, ◌*◌, ◌≤◌, length}
use Rattle.std.proofs.Math.Path.{sym, ap}
use Rattle.std.proofs.Common.{◌∙◌}
use Rattle.std.proofs.Math.Option.{some}
use Rattle.rules.specs.Below.{lowest}
use Rattle.rules.specs.First.{Verdict, first_match}
use Rattle.rules.specs.Points.{point_in}
use Rattle.rules.specs.Outward.{off_grid, flat, folded}
use Rattle.rules.specs.Job.{most_ids, shown, point_tests}
use Rattle.rules.specs.Laws.First.{match_here, match_later, match_end}
use Rattle.values.specs.Places.{place_of}
use Rattle.table.specs.Rows.{table_in, rows_in}
use Rattle.points.specs.declared.Misplaced.{Misplaced}
use Rattle.points.specs.declared.Misplaced.TheVariants.{Point, Flat, Folded}
use Rattle.points.specs.Grid.{Grid, none_off}

-- document 02's code and place
abbrev pub verdict_of : Result (Unit {0}) Misplaced → Verdict
verdict_of (Ok _) = record { code = 0; place = 0 }
verdict_of (Err (Point v)) = record { code = 13; place = v }
verdict_of (Err (Flat r)) = record { code = 14; place = r }
verdict_of (Err (Folded r)) = record { code = 15; place = r }

-- code 13 was not found: the points are on the grid
pub on_grid_lem : {points : List ℕ} {ids : ℕ} {off : Option ℕ} → place_of off ≡ lowest ids (off_grid (point_in points)) → off ≡ None → ids ≤ most_ids → 6 * ids ≤ length points
    → Grid points ids
on_grid_lem looked fine few room = none_off (sym looked ∙ ap place_of fine) few room

module _ (bytes points : List ℕ) (ids : ℕ) (off : Option ℕ) (looked : place_of off ≡ lowest ids (off_grid (point_in points))) where
  pub point_found : {v : ℕ} → off ≡ Some v → verdict_of (Err (Point v)) ≡ first_match 13 (point_tests (table_in bytes) ids (some (point_in points)))
  unfolding point_tests shown
  point_found {v} e = sym (match_here 13 _ _ v (sym looked ∙ ap place_of e))

  module _ (fine : off ≡ None) where
    module _ (thin : Option ℕ) (sought : place_of thin ≡ lowest (rows_in bytes) (flat (table_in bytes) (point_in points))) where
      pub flat_found : {r : ℕ} → thin ≡ Some r → verdict_of (Err (Flat r)) ≡ first_match 13 (point_tests (table_in bytes) ids (some (point_in points)))
      unfolding point_tests shown
      flat_found {r} e = sym (match_later 13 _ _ (sym looked ∙ ap place_of fine) ∙ match_here 14 _ _ r (sym sought ∙ ap place_of e))

      module _ (thick : thin ≡ None) (fold : Option ℕ) (tried : place_of fold ≡ lowest (rows_in bytes) (folded (table_in bytes) (point_in points))) where
        pub fold_found : {r : ℕ} → fold ≡ Some r → verdict_of (Err (Folded r)) ≡ first_match 13 (point_tests (table_in bytes) ids (some (point_in points)))
        unfolding point_tests shown
        fold_found {r} e =
            sym (match_later 13 _ _ (sym looked ∙ ap place_of fine) ∙ match_later 14 _ _ (sym sought ∙ ap place_of thick) ∙ match_here 15 _ _ r (sym tried ∙ ap place_of e))

        pub all_placed : fold ≡ None → verdict_of (Ok tt) ≡ first_match 13 (point_tests (table_in bytes) ids (some (point_in points)))
        unfolding point_tests shown
        all_placed e =
            sym (match_later 13 _ _ (sym looked ∙ ap place_of fine) ∙ match_later 14 _ _ (sym sought ∙ ap place_of thick) ∙ match_later 15 _ _ (sym tried ∙ ap place_of e)
            ∙ match_end 16)
