-- What the tests have shown of a closed table with marks, by equations and bounds, so that a value of the code can carry it.
use Rattle.std.specs.Prelude.{◌≡◌, not, List, ℕ, ◌≤◌, length}
use Rattle.std.proofs.Common.{ap}
use Rattle.rules.specs.Table.{edges_joined, vertices_joined}
use Rattle.rules.specs.Job.{most_ids}
use Rattle.rules.specs.Laws.Below.{none_lowest}
use Rattle.rules.specs.Reading.Closed.{edges_read, vertices_read}
use Rattle.rules.specs.Reading.Codes.{each_row}
use Rattle.table.specs.Rows.{rows_in, table_in}
use Rattle.table.specs.Tested.{Each, Tested, IdsTested, ground_of, tested_of}
use Rattle.rings.specs.Far.{Marked, marked_by}

-- V, the edge and vertex rules, no more ids than the limit, and a mark for each row
abbrev pub MarksTested : List ℕ → List ℕ → ℕ → Type 0
MarksTested bytes marks ids =
    IdsTested bytes ids
    × Each (table_in bytes) (edges_joined (table_in bytes))
    × Each (table_in bytes) (vertices_joined (table_in bytes))
    × (ids ≤ most_ids)
    × (length marks ≡ rows_in bytes)

module _ {bytes neighbours marks : List ℕ} {ids : ℕ} where
  pub marked_of : Tested bytes neighbours → MarksTested bytes marks ids → Marked bytes neighbours marks ids
  marked_of tested (below, edges, vertices, few, each) =
      let t = table_in bytes in
      let on_ground = ground_of tested below in
      marked_by on_ground (record {
        paired = on_ground.paired;
        edges = λ r l. (edges_read t on_ground.paired.rising r).0 (each_row t ids (edges_joined t) edges r l);
        vertices = λ r l. (vertices_read t on_ground.paired.rising r).0 (each_row t ids (vertices_joined t) vertices r l);
      }) few each

  pub marks_tested : Marked bytes neighbours marks ids → Tested bytes neighbours × MarksTested bytes marks ids
  marks_tested m =
      let t = table_in bytes in
      let (tested, below) = tested_of m.ground in
      let up = m.ground.paired.rising in (
        tested,
        (
          below,
          none_lowest t.rows (λ r. not (edges_joined t r)) (λ r l. ap not ((edges_read t up r).1 (m.closed.edges r l))),
          none_lowest t.rows (λ r. not (vertices_joined t r)) (λ r l. ap not ((vertices_read t up r).1 (m.closed.vertices r l))),
          m.few,
          m.each,
        ),
      )
