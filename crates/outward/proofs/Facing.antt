-- Each listed triangle faces outward.
use Rattle.std.specs.Prelude.{◌≡◌, refl, true, false, ℕ, ◌<◌, get_or}
use Rattle.std.proofs.Common.{◌∙◌}
use Rattle.std.proofs.Math.Path.{ap}
use Rattle.std.proofs.Math.Option.{some}
use mathlib.Core.List.{List, [], ◌∷◌, map}
use Rattle.std.proofs.Math.Nat.{lt_trans}
use Rattle.rules.specs.Shape.{facet}
use Rattle.rules.specs.Table.{Table}
use Rattle.rules.specs.Skin.{on_skin, triangle}
use Rattle.rules.specs.Proposals.{inside_in}
use Rattle.rules.specs.Points.{Point}
use Rattle.rules.specs.Outward.{flat, right_way, exchanged, triangle_as}
use Rattle.rules.specs.Laws.Shape.{facet_three}
use Rattle.rules.specs.Reading.Closed.{Paired}
use Rattle.rules.specs.Reading.Skin.{TriangleIds}
use Rattle.rules.specs.Reading.Outer.{OuterAlike}
use Rattle.rules.specs.Reading.Outward.{listed_id, three_each}
use Rattle.outward.specs.Row.{below_corners}
use Rattle.outward.specs.Listed.{outward_words, Stands, at_words}
use Rattle.outward.specs.Facing.{Facing, by_way}

module _ (t : Table) (four : t.corners ≡ 4) {id_count : ℕ} (paired : Paired t id_count) (at : ℕ → Point) (solid : (r : ℕ) → r < t.rows → flat t at r ≡ false)
    (marks : List ℕ) (alike : OuterAlike t marks) where
  -- ---- a skin triangle of an inside row
  module _ {r c : ℕ} (l : r < t.rows) (lc : c < 4) (m : inside_in marks r ≡ true) (o : on_skin t (inside_in marks) r c ≡ true) where
    -- its ids p, q and u rise
    module _ {p q u : ℕ} (ids : TriangleIds t r c p q u) (pq : p < q) (qu : q < u) (is : triangle t r c ≡ p ∷ q ∷ u ∷ []) where
      as_listed : let ids = triangle_as t true (some at) r c in Facing t at r c (get_or ids 0 0) (get_or ids 1 0) (get_or ids 2 0)
      unfolding triangle_as exchanged
      as_listed = rw is (by_way t four paired at solid marks alike l lc m o ids pq qu is (right_way t at r c) refl)

    facing : let ids = triangle_as t true (some at) r c in Facing t at r c (get_or ids 0 0) (get_or ids 1 0) (get_or ids 2 0)
    unfolding triangle
    facing =
        let (i, j, k, ij, jk, k4, (ni, nj, nk), is) = facet_three c lc in
        let lj = lt_trans jk k4 in
        let ids : TriangleIds t r c (t.id r i) (t.id r j) (t.id r k) = record {
          first = i;
          second = j;
          third = k;
          first_below = lt_trans ij lj;
          second_below = lj;
          third_below = k4;
          first_stays = ni;
          second_stays = nj;
          third_stays = nk;
          first_is = refl;
          second_is = refl;
          third_is = refl;
        }
        in
        as_listed ids (paired.rising r l i j ij (below_corners t four lj)) (paired.rising r l j k jk (below_corners t four k4))
        (ap (λ (n : ℕ). map (t.id r) (facet n c)) four ∙ ap (map (t.id r)) is)

  -- ---- triangle k of the list, by its words

  module _ (rest : List ℕ) where
    abbrev words : List ℕ
    words = outward_words t at marks rest

    pub facing_at : {k r c : ℕ} → Stands t (inside_in marks) k r c → Facing t at r c (listed_id words k 0) (listed_id words k 1) (listed_id words k 2)
    facing_at {k} {r} {c} s =
        at_words t four (inside_in marks) (triangle_as t true (some at)) (three_each t true (some at) four) rest s (Facing t at r c)
        (facing s.row_below s.corner_below s.row_inside s.on_skin_lem)
