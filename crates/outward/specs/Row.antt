-- A row by its four ids x, y, w and v, and the two rows at a triangle.
use Rattle.std.specs.Prelude.{◌≡◌, ◌↔◌, ◌≢◌, Bool, true, not, ◌&&◌, ℕ, ◌<◌, eqb}
use Rattle.std.proofs.Common.{sym, ◌∙◌, subst, inl, inr, ⊎_elim}
use Rattle.std.proofs.Math.Logic.{Ne-symm}
use Rattle.rules.specs.Table.{Table, holds, across}
use Rattle.rules.specs.Skin.{different, holds_three}
use Rattle.rules.specs.Outward.{far_id}
use Rattle.rules.specs.Laws.Truth.{not_reads, and_reads, eqb_reads}
use Rattle.rules.specs.Reading.Rows.{Holds, holds_reads}
use Rattle.rules.specs.Reading.Neighbours.{Side, side_reads, side_self}
use Rattle.rules.specs.Reading.Closed.{Paired, across_is, across_other, across_below}
use Rattle.rules.specs.Reading.Skin.{Different, different_reads, TriangleIds, three_reads, triangle_rows, triangle_of}
use Rattle.rules.specs.Reading.Points.{Fourth, OnTriangle, is_fourth, fourth_only, own_fourth, own_only}
use Rattle.rules.specs.Reading.Outward.{HoldsAll}
use Rattle.outward.specs.Orders.{OneOf, one_of_triangle, in_any_order}

-- ---- the ids of a triangle in other orders

pub ids_first_exchanged : {t : Table} {r c x y w : ℕ} → TriangleIds t r c x y w → TriangleIds t r c y x w
ids_first_exchanged i = record {
  first = i.second;
  second = i.first;
  third = i.third;
  first_below = i.second_below;
  second_below = i.first_below;
  third_below = i.third_below;
  first_stays = i.second_stays;
  second_stays = i.first_stays;
  third_stays = i.third_stays;
  first_is = i.second_is;
  second_is = i.first_is;
  third_is = i.third_is;
}

pub ids_last_exchanged : {t : Table} {r c x y w : ℕ} → TriangleIds t r c x y w → TriangleIds t r c x w y
ids_last_exchanged i = record {
  first = i.first;
  second = i.third;
  third = i.second;
  first_below = i.first_below;
  second_below = i.third_below;
  third_below = i.second_below;
  first_stays = i.first_stays;
  second_stays = i.third_stays;
  third_stays = i.second_stays;
  first_is = i.first_is;
  second_is = i.third_is;
  third_is = i.second_is;
}

-- ---- the ids of a row

-- row s has the four different ids x, y, w and v
pub record FourIds (t : Table) (s x y w v : ℕ) : Type 0 where
  pub three : Different x y w
  pub other : Different x y v
  pub apart : w ≢ v
  pub held : HoldsAll t s x y w
  pub fourth : Holds t s v

-- the first two may change places, and the last two
pub first_exchanged : {t : Table} {s x y w v : ℕ} → FourIds t s x y w v → FourIds t s y x w v
first_exchanged i =
    let (xy, xw, yw) = i.three in
    let (_, xv, yv) = i.other in
    let (hx, hy, hw) = i.held in
    record { three = (Ne-symm xy, yw, xw); other = (Ne-symm xy, yv, xv); apart = i.apart; held = (hy, hx, hw); fourth = i.fourth }

pub last_exchanged : {t : Table} {s x y w v : ℕ} → FourIds t s x y w v → FourIds t s x y v w
last_exchanged i =
    let (hx, hy, hw) = i.held in
    record { three = i.other; other = i.three; apart = Ne-symm i.apart; held = (hx, hy, i.fourth); fourth = hw }

unfoldable pub four_ids : Table → ℕ → ℕ → ℕ → ℕ → ℕ → Bool
four_ids t s x y w v = (different x y w && (different x y v && not (eqb w v))) && (holds_three t x y w s && holds t s v)

module _ (t : Table) (four : t.corners ≡ 4) where
  pub four_reads : (s x y w v : ℕ) → (four_ids t s x y w v ≡ true) ↔ FourIds t s x y w v
  unfolding four_ids
  four_reads s x y w v =
      let (forth, back) =
      and_reads (and_reads (different_reads x y w) (and_reads (different_reads x y v) (not_reads (eqb_reads w v)))) (and_reads (three_reads t four x y w s) (holds_reads t s v))
      in (
        λ e. let ((d, (o, a)), (h, f)) = forth e in record { three = d; other = o; apart = a; held = h; fourth = f },
        λ i. back ((i.three, (i.other, i.apart)), (i.held, i.fourth)),
      )

  pub below_corners : {c : ℕ} → c < 4 → c < t.corners
  below_corners {c} l = subst (λ (n : ℕ). c < n) (sym four) l

  pub three_held : {r c x y w : ℕ} → TriangleIds t r c x y w → HoldsAll t r x y w
  three_held i = (
    (i.first, below_corners i.first_below, i.first_is),
    (i.second, below_corners i.second_below, i.second_is),
    (i.third, below_corners i.third_below, i.third_is),
  )

  -- a row that holds the triangle holds its ids x, y and w
  module _ {r c x y w : ℕ} (lc : c < 4) (i : TriangleIds t r c x y w) (d : Different x y w) where
    pub side_held : {s : ℕ} → Side t r c s → HoldsAll t s x y w
    side_held {s} h = (three_reads t four x y w s).0 (sym (triangle_rows t four i d lc s) ∙ (side_reads t r c s).1 h)

    pub held_side : {s : ℕ} → HoldsAll t s x y w → Side t r c s
    held_side {s} h = (side_reads t r c s).0 (triangle_rows t four i d lc s ∙ (three_reads t four x y w s).1 h)

    -- its fourth corner is the fourth id
    fourth_ids : {s v : ℕ} → Side t r c s → Fourth t r c s v → FourIds t s x y w v
    fourth_ids {s} {v} h (f, off) = record {
      three = d;
      other = (d.0, ne i.first i.first_below i.first_stays i.first_is, ne i.second i.second_below i.second_stays i.second_is);
      apart = ne i.third i.third_below i.third_stays i.third_is;
      held = side_held h;
      fourth = f;
    }
      where
        ne : (k : ℕ) → k < 4 → k ≢ c → {u : ℕ} → t.id r k ≡ u → u ≢ v
        ne k l kc e q = off (k, below_corners l, kc, e ∙ q)

    ids_fourth : {s v : ℕ} → FourIds t s x y w v → Fourth t r c s v
    ids_fourth {s} {v} j =
        (j.fourth, λ on. ⊎_elim (λ e. j.other.1 (sym e)) (⊎_elim (λ e. j.other.2 (sym e)) (λ e. j.apart (sym e))) (one_of on))
      where
        one_of : OnTriangle t r c v → OneOf x y w v
        one_of (k, l, ne, e) =
            in_any_order (λ a b c. OneOf a b c v) (λ a b c. ⊎_elim (λ q. inr (inl q)) (⊎_elim inl (λ q. inr (inr q))))
            (λ a b c. ⊎_elim inl (⊎_elim (λ q. inr (inr q)) (λ q. inr (inl q)))) t four lc i d (one_of_triangle t four lc (rw four at l) ne e)

  -- ---- in a table that holds each triangle in pairs

  module _ {id_count : ℕ} (paired : Paired t id_count) where
    pub id_below : {s v : ℕ} → s < t.rows → Holds t s v → v < id_count
    id_below {s} l (c, lc, e) = subst (λ (u : ℕ). u < id_count) e (paired.below s l c lc)

    -- a row's triangle, the row across it, and the fourth id of each
    module _ {r c x y w : ℕ} (lr : r < t.rows) (lc : c < 4) (i : TriangleIds t r c x y w) (d : Different x y w) where
      pub own_ids : FourIds t r x y w (t.id r c)
      own_ids = fourth_ids lc i d (side_self t r c) (own_fourth t paired lr (below_corners lc))

      pub own_is : {v : ℕ} → FourIds t r x y w v → v ≡ t.id r c
      own_is {v} j = own_only t paired lr (below_corners lc) v (ids_fourth lc i d j)

      across_held : Side t r c (across t r c)
      across_held = let o = across_is paired r c lr (below_corners lc) in subst (Side t r c) (sym (across_other t r c o)) o.is

      pub far_ids : FourIds t (across t r c) x y w (far_id t r c)
      unfolding far_id
      far_ids = fourth_ids lc i d across_held (is_fourth t paired lr (across_below paired r c lr (below_corners lc)) (below_corners lc) across_held)

      pub far_is : {v : ℕ} → FourIds t (across t r c) x y w v → v ≡ far_id t r c
      unfolding far_id
      far_is {v} j = fourth_only t paired lr (across_below paired r c lr (below_corners lc)) (below_corners lc) across_held v (ids_fourth lc i d j)

      -- no other row holds the triangle
      pub across_only : (s : ℕ) → s < t.rows → HoldsAll t s x y w → s ≢ r → s ≡ across t r c
      across_only s l h ne = let o = across_is paired r c lr (below_corners lc) in o.only s l (held_side lc i d h) ne ∙ sym (across_other t r c o)

    -- a row has one fourth id
    pub one_fourth : {s x y w v v' : ℕ} → s < t.rows → FourIds t s x y w v → FourIds t s x y w v' → v ≡ v'
    one_fourth {s} {x} {y} {w} l i j =
        let (hx, hy, hw) = i.held in
        let (c, lc, k) = triangle_of t four s x y w i.three hx hy hw in
        own_is l lc k i.three i ∙ sym (own_is l lc k i.three j)
