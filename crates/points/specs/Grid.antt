-- Points that passed code 13.
use Rattle.std.specs.Prelude.{◌≡◌, true, not, ◌&&◌, List, ℕ, ◌*◌, ◌≤◌, ◌<◌, eqb, length}
use Rattle.std.proofs.Common.{ap, ◌∙◌}
use Rattle.std.proofs.Math.Option.{none}
use Rattle.std.proofs.lemmas.Bool.{not-false}
use Rattle.rules.specs.Below.{lowest}
use Rattle.rules.specs.Points.{point_in, on_grid, at_origin}
use Rattle.rules.specs.Outward.{off_grid}
use Rattle.rules.specs.Job.{most_ids}
use Rattle.rules.specs.Laws.Truth.{or_no_first}
use Rattle.rules.specs.Laws.Below.{lowest_none}
use Rattle.volume.specs.declared.Point.{Point}
use Rattle.volume.specs.Bound.{grid_most}
use Rattle.volume.specs.Meant.{meant, Near, on_grid_near}

-- no more ids than the limit, a point for each, and each point in range
pub record Grid (points : List ℕ) (ids : ℕ) : Type 0 where
  pub few : ids ≤ most_ids
  pub room : 6 * ids ≤ length points
  pub on : (v : ℕ) → v < ids → on_grid (point_in points v) ≡ true

-- no id is off the grid
pub none_off : {points : List ℕ} {ids : ℕ} → lowest ids (off_grid (point_in points)) ≡ none → ids ≤ most_ids → 6 * ids ≤ length points → Grid points ids
unfolding off_grid
none_off {points} {ids} off few room = record {
  few = few;
  room = room;
  on = λ v l.
      not-false (on_grid (point_in points v)) (or_no_first (not (on_grid (point_in points v))) (eqb v 0 && not (at_origin (point_in points v)))
      (lowest_none ids (off_grid (point_in points)) off v l));
}

-- a point that was read is in range
pub read_near : {points : List ℕ} {ids : ℕ} → Grid points ids → (v : ℕ) → v < ids → {p : Point} → meant p ≡ point_in points v → Near grid_most p
read_near grid v l {p} e = on_grid_near p (ap on_grid e ∙ grid.on v l)
