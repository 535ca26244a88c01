-- What is proved of the skin listed outward. `as_rising` holds of any list, in whatever order is asked for.
use Rattle.std.specs.Prelude.{◌≡◌, true, false, List, ℕ, ◌<◌, length}
use Rattle.std.proofs.Math.Logic.{Ne-symm}
use Rattle.std.proofs.Math.Option.{some}
use Rattle.rules.specs.Below.{count}
use Rattle.rules.specs.Table.{Table}
use Rattle.rules.specs.Skin.{far_edge, far_end, skin_vertex, clean}
use Rattle.rules.specs.Proposals.{inside_in}
use Rattle.rules.specs.Points.{Point}
use Rattle.rules.specs.Outward.{flat, folded, triangle_as}
use Rattle.rules.specs.Laws.Below.{any_here}
use Rattle.rules.specs.Laws.Count.{ExactlyOne, two_count}
use Rattle.rules.specs.Reading.Closed.{Paired}
use Rattle.rules.specs.Reading.Skin.{Inside, inside_reads, SkinTriangle, far_reads}
use Rattle.rules.specs.Reading.Outer.{OuterAlike}
use Rattle.rules.proofs.Reading.Ring.{clean_reads}
use Rattle.rules.specs.Reading.Outward.{listed_id, Passes, FacesOutward}
use Rattle.outward.specs.Row.{ids_first_exchanged, three_held, id_below}
use Rattle.outward.specs.Listed.{stands, number_listed}
use Rattle.outward.specs.Facing.{faces_outward}
use Rattle.outward.proofs.Facing.{facing_at}
use Rattle.outward.proofs.Passed.{once}
pub use Rattle.outward.specs.Listed.{as_rising, outward_list, outward_words}

-- a skin triangle with its first two ids exchanged
swapped : {t : Table} {In : ℕ → Type 0} {x y w : ℕ} → SkinTriangle t In x y w → SkinTriangle t In y x w
swapped s =
    let (xy, xw, yw) = s.different in
    record {
      row = s.row;
      corner = s.corner;
      row_below = s.row_below;
      corner_below = s.corner_below;
      on_skin_lem = s.on_skin_lem;
      different = (Ne-symm xy, yw, xw);
      ids = ids_first_exchanged s.ids;
    }

module _ (t : Table) (four : t.corners ≡ 4) {id_count : ℕ} (paired : Paired t id_count) (at : ℕ → Point) (solid : (r : ℕ) → r < t.rows → flat t at r ≡ false)
    (marks : List ℕ) (alike : OuterAlike t marks) (rest : List ℕ) where
  abbrev list : List (List ℕ)
  list = outward_list t at marks

  -- the words of the list, and what stands behind them
  abbrev words : List ℕ
  words = outward_words t at marks rest

  -- each listed triangle faces outward
  pub faces : (k : ℕ) → k < length list → FacesOutward t at (Inside marks) (listed_id words k 0) (listed_id words k 1) (listed_id words k 2)
  faces k l =
      let (r, c, s) = stands t (inside_in marks) k (rw (number_listed t four (inside_in marks) (triangle_as t true (some at))) at l) in
      faces_outward t four paired at solid marks alike s.row_below s.corner_below s.row_inside s.on_skin_lem (facing_at t four paired at solid marks alike rest s)

  -- where no two finite neighbours are folded and the skin is clean, any two ids of a skin triangle are passed once each way
  pub each_way : ((r : ℕ) → r < t.rows → folded t at r ≡ false) → clean t (inside_in marks) id_count ≡ true → (x y w : ℕ) → SkinTriangle t (Inside marks) x y w
      → ExactlyOne (length list) (Passes words x y) × ExactlyOne (length list) (Passes words y x)
  unfolding skin_vertex far_end
  each_way apart ok x y w s =
      let passed = once t four paired at solid apart marks alike rest in
      (passed x y (two s), passed y x (two (swapped s)))
    where
      two : {x y w : ℕ} → SkinTriangle t (Inside marks) x y w → count id_count (far_edge t (inside_in marks) x y) ≡ 2
      two {x} {y} {w} s =
          let (hx, hy, hw) = three_held t four s.ids in
          let lx = id_below t four paired s.row_below hx in
          let ly = id_below t four paired s.row_below hy in
          let lw = id_below t four paired s.row_below hw in
          let far = (far_reads t four (inside_in marks) (inside_reads marks) x y w).1 s in
          let on = any_here id_count (far_end t (inside_in marks) id_count x) y ly (any_here id_count (far_edge t (inside_in marks) x y) w lw far) in
          two_count id_count (far_edge t (inside_in marks) x y) (((clean_reads t (inside_in marks) id_count).0 ok x lx on).two y w (ly, lw, far))
