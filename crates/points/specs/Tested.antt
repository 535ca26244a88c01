-- What the tests have shown of a table with points, by equations and bounds, so that a value of the code can carry it.
use Rattle.std.specs.Prelude.{◌≡◌, true, List, ℕ, ◌*◌, ◌≤◌, ◌<◌, length}
use Rattle.rules.specs.Points.{point_in, on_grid}
use Rattle.rules.specs.Job.{most_ids}
use Rattle.table.specs.Tested.{IdsTested}
use Rattle.points.specs.Grid.{Grid}

-- V, no more ids than the limit, a point for each, and each point in range
abbrev pub PointsTested : List ℕ → List ℕ → ℕ → Type 0
PointsTested bytes points ids =
    IdsTested bytes ids
    × (ids ≤ most_ids)
    × (6 * ids ≤ length points)
    × ((v : ℕ) → v < ids → on_grid (point_in points v) ≡ true)

pub placed_grid : {points : List ℕ} {ids : ℕ} → ids ≤ most_ids → 6 * ids ≤ length points → ((v : ℕ) → v < ids → on_grid (point_in points v) ≡ true) → Grid points ids
placed_grid few room on = record { few = few; room = room; on = on }

pub grid_tested : (bytes : List ℕ) {points : List ℕ} {ids : ℕ} → IdsTested bytes ids → Grid points ids → PointsTested bytes points ids
grid_tested bytes below grid = (below, grid.few, grid.room, grid.on)
