-- What growing rests on, by equations and bounds, so that a value of the code can carry it.
use Rattle.std.specs.Prelude.{◌≡◌, not, List, ℕ, ◌≤◌, length}
use Rattle.std.proofs.Common.{ap}
use Rattle.rules.specs.Table.{edges_joined, vertices_joined}
use Rattle.rules.specs.Work.{work_area}
use Rattle.rules.specs.Laws.Below.{none_lowest}
use Rattle.rules.specs.Reading.Closed.{Paired, Closed, edges_read, vertices_read}
use Rattle.rules.specs.Reading.Codes.{each_row}
use Rattle.table.specs.Rows.{rows_in, table_in}
use Rattle.table.specs.Ground.{ClosedGround}
use Rattle.table.specs.Tested.{Each, Tested, IdsTested, ground_of, grounded_of, tested_of}
use Rattle.tallies.specs.Area.{Area, area_ground}

-- rules 8 and 9
abbrev Joined : List ℕ → Type 0
Joined bytes = Each (table_in bytes) (edges_joined (table_in bytes)) × Each (table_in bytes) (vertices_joined (table_in bytes))

module _ (bytes : List ℕ) {ids : ℕ} where
  closed_by : Paired (table_in bytes) ids → Joined bytes → Closed (table_in bytes) ids
  closed_by paired (edges, vertices) =
      let t = table_in bytes in
      record {
        paired = paired;
        edges = λ r l. (edges_read t paired.rising r).0 (each_row t ids (edges_joined t) edges r l);
        vertices = λ r l. (vertices_read t paired.rising r).0 (each_row t ids (vertices_joined t) vertices r l);
      }

  joined_by : Closed (table_in bytes) ids → Joined bytes
  joined_by closed =
      let t = table_in bytes in
      let up = closed.paired.rising in (
        none_lowest t.rows (λ r. not (edges_joined t r)) (λ r l. ap not ((edges_read t up r).1 (closed.edges r l))),
        none_lowest t.rows (λ r. not (vertices_joined t r)) (λ r l. ap not ((vertices_read t up r).1 (closed.vertices r l))),
      )

-- ---- what reads neighbours rests on: beside a checked table, rules 8 and 9, and a mark for each row. It is `ClosedGround`, by a law each way.

abbrev pub ClosedTested : List ℕ → List ℕ → Type 0
ClosedTested bytes marks =
    Each (table_in bytes) (edges_joined (table_in bytes))
    × Each (table_in bytes) (vertices_joined (table_in bytes))
    × (rows_in bytes ≤ length marks)

module _ {bytes neighbours : List ℕ} (marks : List ℕ) where
  pub closed_of : Tested bytes neighbours → ClosedTested bytes marks → ClosedGround bytes neighbours × (rows_in bytes ≤ length marks)
  closed_of tested (edges, vertices, each) =
      let (ids, on_ground) = grounded_of tested in
      ((ids, on_ground, closed_by bytes on_ground.paired (edges, vertices)), each)

  pub closed_tested : ClosedGround bytes neighbours × (rows_in bytes ≤ length marks) → Tested bytes neighbours × ClosedTested bytes marks
  closed_tested ((ids, on_ground, closed), each) =
      let (edges, vertices) = joined_by bytes closed in
      ((tested_of on_ground).0, (edges, vertices, each))

-- ---- rules 5 to 7 with the neighbour list at the front of the work area, V, rules 8 and 9, a mark for each row, and the work area for these marks

abbrev pub AreaTested : List ℕ → List ℕ → List ℕ → ℕ → Type 0
AreaTested bytes work marks ids =
    Tested bytes work
    × IdsTested bytes ids
    × Each (table_in bytes) (edges_joined (table_in bytes))
    × Each (table_in bytes) (vertices_joined (table_in bytes))
    × (length marks ≡ rows_in bytes)
    × (work ≡ work_area (table_in bytes) ids marks)

module _ {bytes work marks : List ℕ} {ids : ℕ} where
  pub area_of : AreaTested bytes work marks ids → Area bytes work marks ids
  area_of (tested, below, edges, vertices, each, area) =
      let on_ground = ground_of tested below in
      record {
        few = on_ground.few;
        closed = closed_by bytes on_ground.paired (edges, vertices);
        each = each;
        area = area;
      }

  pub area_tested : Area bytes work marks ids → AreaTested bytes work marks ids
  area_tested a =
      let (tested, below) = tested_of (area_ground a) in
      let (edges, vertices) = joined_by bytes a.closed in
      (tested, below, edges, vertices, a.each, a.area)
