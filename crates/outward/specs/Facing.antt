-- A triangle in the order asked for faces outward.
use Rattle.std.specs.Prelude.{◌≡◌, ◌≢◌, Bool, true, false, not, cond, ℕ, ◌<◌, get_or}
use Rattle.std.proofs.Common.{sym, ap₂, ◌∙◌, arith}
use Rattle.std.proofs.Math.Path.{ap}
use Rattle.std.proofs.Math.Logic.{Ne-symm}
use Rattle.std.proofs.Math.Bool.{xor}
use mathlib.Core.List.{List, [], ◌∷◌}
use Rattle.std.proofs.Math.Nat.{lt_trans}
use Rattle.std.proofs.lemmas.Bool.{not-false}
use Rattle.rules.specs.Table.{Table, outer, across}
use Rattle.rules.specs.Skin.{on_skin, triangle}
use Rattle.rules.specs.Proposals.{inside_in}
use Rattle.rules.specs.Points.{Point, below_zero, above_zero, is_zero}
use Rattle.rules.specs.Outward.{product, side_of, far_id, flat, right_way}
use Rattle.rules.specs.Laws.Truth.{not_both, is_false}
use Rattle.rules.specs.Reading.Closed.{Paired, across_below}
use Rattle.rules.specs.Reading.Skin.{Inside, inside_reads, Different, TriangleIds, skin_between}
use Rattle.rules.specs.Reading.Outer.{outer_reads, OuterAlike}
use Rattle.rules.specs.Reading.Points.{below_reads, above_reads}
use Rattle.rules.specs.Reading.Outward.{HoldsAll, FourthCorner, FacesOutward}
use Rattle.outward.specs.Row.{ids_last_exchanged, FourIds, below_corners, own_ids, own_is, far_ids, far_is}
use Rattle.outward.specs.Signs.{solid_above, exchanged_below, exchanged_above, solid_row}

-- The ids a, b and e, in this order, are those of the triangle of row r that leaves out corner c, the lowest first. The row's own fourth
-- corner lies behind it; or, where the row is outer, that of the row across lies in front.
pub record Facing (t : Table) (at : ℕ → Point) (r c a b e : ℕ) : Type 0 where
  pub ids : TriangleIds t r c a b e
  pub lowest_first : (a < b) × (a < e)
  pub others_differ : b ≢ e
  pub behind : outer t r ≡ false → below_zero (product at a b e (t.id r c)) ≡ true
  pub in_front : outer t r ≡ true → above_zero (product at a b e (far_id t r c)) ≡ true

pub all_differ : {t : Table} {at : ℕ → Point} {r c a b e : ℕ} → Facing t at r c a b e → Different a b e
all_differ {a = a} {b = b} {e = e} f = let (ab, ae) = f.lowest_first in (λ (q : a ≡ b). omega arith, λ (q : a ≡ e). omega arith, f.others_differ)

-- a row that holds a, b and e, by its fourth corner
corner_ids : {t : Table} {s a b e d : ℕ} → Different a b e → HoldsAll t s a b e → FourthCorner t s a b e d → FourIds t s a b e d
corner_ids n h (hd, da, db, de) = record { three = n; other = (n.0, Ne-symm da, Ne-symm db); apart = Ne-symm de; held = h; fourth = hd }

module _ (t : Table) (four : t.corners ≡ 4) {id_count : ℕ} (paired : Paired t id_count) (at : ℕ → Point) (solid : (r : ℕ) → r < t.rows → flat t at r ≡ false)
    (marks : List ℕ) (alike : OuterAlike t marks) where
  -- ---- a skin triangle of an inside row
  module _ {r c : ℕ} (l : r < t.rows) (lc : c < 4) (m : inside_in marks r ≡ true) (o : on_skin t (inside_in marks) r c ≡ true) where
    l' : across t r c < t.rows
    l' = across_below paired r c l (below_corners t four lc)

    pub across_outside : inside_in marks (across t r c) ≡ false
    unfolding xor
    across_outside = is_false _ (λ i. not_both (sym (skin_between t (inside_in marks) paired r c l (below_corners t four lc)) ∙ o) (ap₂ xor m i))

    -- of its two rows one is finite
    across_finite : outer t r ≡ true → outer t (across t r c) ≡ false
    across_finite out = is_false _ (λ out'.
        let same = alike r (across t r c) l l' ((outer_reads t r).0 out) ((outer_reads t (across t r c)).0 out') in
        not_both ((inside_reads marks (across t r c)).1 (sym same ∙ (inside_reads marks r).0 m)) across_outside)

    -- its ids p, q and u rise
    module _ {p q u : ℕ} (ids : TriangleIds t r c p q u) (pq : p < q) (qu : q < u) (is : triangle t r c ≡ p ∷ q ∷ u ∷ []) where
      differ : Different p q u
      differ = (λ (e : p ≡ q). omega arith, λ (e : p ≡ u). omega arith, λ (e : q ≡ u). omega arith)

      -- by the sides of the fourth corners, which are not zero
      finite_way : outer t r ≡ false → right_way t at r c ≡ below_zero (product at p q u (t.id r c))
      unfolding right_way side_of
      finite_way fin = rw (fin, is)

      outer_way : outer t r ≡ true → right_way t at r c ≡ above_zero (product at p q u (far_id t r c))
      unfolding right_way side_of
      outer_way out = rw (out, is)

      own_solid : outer t r ≡ false → is_zero (product at p q u (t.id r c)) ≡ false
      own_solid fin = solid_row t four paired at solid l fin (own_ids t four paired l lc ids differ)

      far_solid : outer t r ≡ true → is_zero (product at p q u (far_id t r c)) ≡ false
      far_solid out = solid_row t four paired at solid l' (across_finite out) (far_ids t four paired l lc ids differ)

      -- so they are listed rising where that is the right way, and else it is the right way to exchange two
      pub by_way : (way : Bool) → right_way t at r c ≡ way
          → let ids = cond (not way) (p ∷ u ∷ q ∷ []) (p ∷ q ∷ u ∷ []) in Facing t at r c (get_or ids 0 0) (get_or ids 1 0) (get_or ids 2 0)
      by_way true way = record {
        ids = ids;
        lowest_first = (pq, lt_trans pq qu);
        others_differ = differ.2;
        behind = λ fin. sym (finite_way fin) ∙ way;
        in_front = λ out. sym (outer_way out) ∙ way;
      }
      by_way false way = record {
        ids = ids_last_exchanged ids;
        lowest_first = (lt_trans pq qu, pq);
        others_differ = Ne-symm differ.2;
        behind = λ fin. exchanged_below at p q u (t.id r c) ∙ solid_above _ (own_solid fin) ∙ ap not (sym (finite_way fin) ∙ way);
        in_front = λ out. exchanged_above at p q u (far_id t r c) ∙ not-false _ (sym (solid_above _ (far_solid out)) ∙ sym (outer_way out) ∙ way);
      }

    -- in plain words
    pub faces_outward : {a b e : ℕ} → Facing t at r c a b e → FacesOutward t at (Inside marks) a b e
    faces_outward {a} {b} {e} f =
        let own = own_ids t four paired l lc f.ids (all_differ f) in
        let far = far_ids t four paired l lc f.ids (all_differ f) in
        record {
          in_row = r;
          out_row = across t r c;
          in_below = l;
          out_below = l';
          is_inside = (inside_reads marks r).0 m;
          is_outside = λ i. not_both ((inside_reads marks (across t r c)).1 i) across_outside;
          in_holds = own.held;
          out_holds = far.held;
          lowest_first = f.lowest_first;
          others_differ = f.others_differ;
          behind = λ fin d x.
              let d_is = own_is t four paired l lc f.ids (all_differ f) (corner_ids (all_differ f) own.held x) in
              (below_reads (product at a b e d)).0 (ap (λ (u : ℕ). below_zero (product at a b e u)) d_is ∙ f.behind (is_false _ (λ q. fin ((outer_reads t r).0 q))));
          in_front = λ out d x.
              let d_is = far_is t four paired l lc f.ids (all_differ f) (corner_ids (all_differ f) far.held x) in
              (above_reads (product at a b e d)).0 (ap (λ (u : ℕ). above_zero (product at a b e u)) d_is ∙ f.in_front ((outer_reads t r).1 out));
        }
