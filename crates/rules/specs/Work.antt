-- The work area: the neighbour list, and behind it the corner tallies.
use Rattle.std.specs.Prelude.{ℕ, Bool, true, ◌&&◌, List, ◌++◌}
use Rattle.rules.specs.Below.{count, tabulate}
use Rattle.rules.specs.Table.{Table, holds, neighbour_list}
use Rattle.rules.specs.Proposals.{inside_in}

-- how many rows hold v, of those that pass; outer rows count as any others do
unfoldable pub tally : Table → (ℕ → Bool) → ℕ → ℕ
tally t p v = count t.rows (λ r. p r && holds t r v)

abbrev pub every_row : ℕ → Bool
every_row r = true

-- what the work area holds for marks: the neighbour list, then for each id the inside rows that hold it, then for each id all rows that do
unfoldable pub work_area : Table → ℕ → List ℕ → List ℕ
work_area t id_count marks = neighbour_list t ++ (tabulate id_count (tally t (inside_in marks)) ++ tabulate id_count (tally t every_row))
