-- What each word of the work area says.
use Rattle.std.specs.Prelude.{◌≡◌, refl, ◌&&◌, ℕ, ◌+◌, ◌*◌, ◌≤◌, ◌<◌}
use Rattle.std.proofs.Common.{sym, ◌∙◌, mul-le-mul_left, mul-suc, arith}
use Rattle.std.proofs.Math.Path.{ap}
use mathlib.Core.List.{List, ◌++◌, append_assoc}
use Rattle.std.proofs.Math.ListN.{length, get_or, length-append, get_or-append}
use Rattle.std.proofs.Math.Seq.{get_or-append-add}
use Rattle.rules.specs.Below.{tabulate}
use Rattle.rules.specs.Table.{Table, holds, across, neighbour_list}
use Rattle.rules.specs.Proposals.{inside_in}
use Rattle.rules.specs.Work.{tally, every_row, work_area}
use Rattle.rules.specs.Laws.Truth.{and_reads}
use Rattle.rules.specs.Laws.Lists.{Exactly, tabulate_length, tabulate_at, count_exactly, exactly_map}
use Rattle.rules.specs.Reading.Rows.{Holds, holds_reads}
use Rattle.rules.specs.Reading.Skin.{Inside, inside_reads}
use Rattle.rules.specs.Reading.Closed.{list_length, list_at}

-- a word for each id behind the neighbour list, and then another
pub laid_length : (t : Table) (id_count : ℕ) (f g : ℕ → ℕ) → length (neighbour_list t ++ (tabulate id_count f ++ tabulate id_count g)) ≡ t.corners * t.rows + 2 * id_count
laid_length t id_count f g = omega (
  arith,
  length-append (neighbour_list t) (tabulate id_count f ++ tabulate id_count g),
  length-append (tabulate id_count f) (tabulate id_count g),
  list_length t,
  tabulate_length id_count f,
  tabulate_length id_count g,
)

module _ (t : Table) (id_count : ℕ) (marks : List ℕ) where
  abbrev list : List ℕ
  list = neighbour_list t

  abbrev inside : List ℕ
  inside = tabulate id_count (tally t (inside_in marks))

  abbrev every : List ℕ
  every = tabulate id_count (tally t every_row)

  pub work_length : length (work_area t id_count marks) ≡ t.corners * t.rows + 2 * id_count
  unfolding work_area
  work_length = laid_length t id_count (tally t (inside_in marks)) (tally t every_row)

  pub list_shorter : length (neighbour_list t) ≤ length (work_area t id_count marks)
  list_shorter = omega (arith, list_length t, work_length)

  work_list : (k : ℕ) → k < t.corners * t.rows → get_or (work_area t id_count marks) k 0 ≡ get_or (neighbour_list t) k 0
  unfolding work_area
  work_list k l = get_or-append list (inside ++ every) 0 k (rw (list_length t) l)

  -- word 4r + c is the row across the triangle of row r that leaves out corner c
  module _ (r c : ℕ) (l : r < t.rows) (m : c < t.corners) where
    place_below : t.corners * r + c < t.corners * t.rows
    place_below = omega (arith, mul-le-mul_left t.corners l, mul-suc t.corners r)

    pub across_there : t.corners * r + c < length (work_area t id_count marks)
    across_there = omega (arith, place_below, work_length)

    pub work_across : get_or (work_area t id_count marks) (t.corners * r + c) 0 ≡ across t r c
    work_across = work_list (t.corners * r + c) place_below ∙ list_at t r c l m

  -- then for each id the inside rows, and all rows, that hold it
  module _ (v : ℕ) (l : v < id_count) where
    pub work_inside : get_or (work_area t id_count marks) (t.corners * t.rows + v) 0 ≡ tally t (inside_in marks) v
    unfolding work_area
    work_inside =
        ap (λ (n : ℕ). get_or (list ++ (inside ++ every)) (n + v) 0) (sym (list_length t)) ∙ get_or-append-add list (inside ++ every) v 0
        ∙ get_or-append inside every 0 v (rw (tabulate_length id_count (tally t (inside_in marks))) l) ∙ tabulate_at id_count (tally t (inside_in marks)) 0 v l

    pub work_every : get_or (work_area t id_count marks) (t.corners * t.rows + id_count + v) 0 ≡ tally t every_row v
    unfolding work_area
    work_every =
        ap (λ (xs : List ℕ). get_or xs (t.corners * t.rows + id_count + v) 0) (sym (append_assoc list inside every))
        ∙ ap (λ (n : ℕ). get_or ((list ++ inside) ++ every) (n + v) 0) (sym front) ∙ get_or-append-add (list ++ inside) every v 0 ∙ tabulate_at id_count (tally t every_row) 0 v l
      where
        front : length (list ++ inside) ≡ t.corners * t.rows + id_count
        front = omega (arith, length-append list inside, list_length t, tabulate_length id_count (tally t (inside_in marks)))

-- ---- tallies in plain relations

module _ (t : Table) (v : ℕ) where
  -- so many inside rows hold v
  pub inside_tallied : (marks : List ℕ) → Exactly t.rows (λ r. Inside marks r × Holds t r v) (tally t (inside_in marks) v)
  unfolding tally
  inside_tallied marks = exactly_map (λ r. and_reads (inside_reads marks r) (holds_reads t r v)) ((count_exactly t.rows (λ r. inside_in marks r && holds t r v) _).0 refl)

  -- so many rows hold v
  pub every_tallied : Exactly t.rows (λ r. Holds t r v) (tally t every_row v)
  unfolding tally
  every_tallied = exactly_map (λ r. holds_reads t r v) ((count_exactly t.rows (λ r. every_row r && holds t r v) _).0 refl)
