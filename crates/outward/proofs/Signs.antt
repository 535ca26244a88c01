-- Two finite neighbours lie on opposite sides of their triangle, so the rows of a side without outer rows are sided.
use Rattle.std.specs.Prelude.{◌≡◌, Bool, true}
use Rattle.std.proofs.Common.{◌∙◌}
use Rattle.std.proofs.Math.Path.{ap, ap₂}
use Rattle.std.proofs.Math.Bool.{false, not}
use Prim.Native.Nat.{ℕ, ◌<◌}
use Rattle.rules.specs.Table.{Table, outer, across}
use Rattle.rules.specs.Skin.{triangle}
use Rattle.rules.specs.Points.{Point, same_sign}
use Rattle.rules.specs.Outward.{product, side_of, far_id, flat, same_side, folded}
use Rattle.rules.specs.Laws.Truth.{not_both, is_false, and_both}
use Rattle.rules.specs.Laws.Below.{any_none}
use Rattle.rules.specs.Reading.Closed.{Paired, across_below}
use Rattle.rules.specs.Reading.Skin.{Different, TriangleIds}
use Rattle.outward.specs.Orders.{in_any_order}
use Rattle.outward.specs.Row.{below_corners, own_ids, far_ids}
use Rattle.outward.specs.EachWay.{Sided}
use Rattle.outward.specs.Signs.{same_neg, other_side_lem, swapped₁, swapped₂, sign, sign₃, solid_row}

module _ (t : Table) (four : t.corners ≡ 4) {id_count : ℕ} (paired : Paired t id_count) (at : ℕ → Point) (solid : (r : ℕ) → r < t.rows → flat t at r ≡ false) where
  module _ (apart : (r : ℕ) → r < t.rows → folded t at r ≡ false) where
    -- two finite rows at a triangle lie on opposite sides of it
    pub opposed : {r c x y w : ℕ} → r < t.rows → c < 4 → outer t r ≡ false → outer t (across t r c) ≡ false → TriangleIds t r c x y w → Different x y w
        → sign at x y w (far_id t r c) ≡ not (sign at x y w (t.id r c))
    unfolding folded same_side side_of sign
    opposed {r} {c} {x} {y} {w} l lc fin fin' i d =
        other_side_lem (product at x y w v) (product at x y w v') (solid_row t four paired at solid l fin (own_ids t four paired l lc i d))
        (solid_row t four paired at solid (across_below paired r c l (below_corners t four lc)) fin' (far_ids t four paired l lc i d))
        (in_any_order (λ a b e. same_sign (product at a b e v) (product at a b e v') ≡ false)
        (λ a b e q. ap₂ same_sign (swapped₁ at a b e v) (swapped₁ at a b e v') ∙ same_neg (product at a b e v) (product at a b e v') ∙ q)
        (λ a b e q. ap₂ same_sign (swapped₂ at a b e v) (swapped₂ at a b e v') ∙ same_neg (product at a b e v) (product at a b e v') ∙ q)
        t four lc i d tested)
      where
        v : ℕ
        v = t.id r c

        v' : ℕ
        v' = far_id t r c

        tested : same_sign (side_of at (triangle t r c) v) (side_of at (triangle t r c) v') ≡ false
        tested = is_false _ (λ q. not_both (and_both (and_both (ap not fin) (ap not fin')) q) (any_none t.corners (same_side t at r) (apart r l) c (below_corners t four lc)))

    -- the rows of a side that no outer row is of
    pub is_sided : (on : ℕ → Bool) → ((s : ℕ) → s < t.rows → on s ≡ true → outer t s ≡ false) → Sided t four paired on (sign at)
    is_sided on finite = record {
      turned = λ x y w v s l o i. sign₃ at x y w v (solid_row t four paired at solid l (finite s l o) i);
      opposed = λ x y w r c l lc o o' i d. opposed l lc (finite r l o) (finite (across t r c) (across_below paired r c l (below_corners t four lc)) o') i d;
    }
