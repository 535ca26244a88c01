-- Points on a table: the tests of codes 13 to 15, and triangles listed outward. `at v` is the point of id v.
use Rattle.std.specs.Prelude.{ℕ, Bool, not, ◌&&◌, ◌||◌, cond, List, [], ◌∷◌, eqb, get_or, ℤ}
use Rattle.std.proofs.Math.Option
use Rattle.std.proofs.Math.Option.{Option, some, none}
use Rattle.rules.specs.Below.{lowest, any}
use Rattle.rules.specs.Table.{Table, outer, across}
use Rattle.rules.specs.Skin.{triangle}
use Rattle.rules.specs.Points.{Point, on_grid, below_zero, above_zero, is_zero, same_sign, at_origin, volume}

-- ---- which side of a triangle an id is on

-- the product at four ids
unfoldable pub product : (ℕ → Point) → ℕ → ℕ → ℕ → ℕ → ℤ
product at a b c d = volume (at a) (at b) (at c) (at d)

-- the product at the three ids of a triangle and a fourth
unfoldable pub side_of : (ℕ → Point) → List ℕ → ℕ → ℤ
side_of at ids d = product at (get_or ids 0 0) (get_or ids 1 0) (get_or ids 2 0) d

-- v is an id of the triangle of row r that leaves out corner c
unfoldable pub on_triangle : Table → ℕ → ℕ → ℕ → Bool
on_triangle t r c v = any t.corners (λ k. not (eqb k c) && eqb (t.id r k) v)

-- the fourth corner of row s, which holds that triangle: its id that is not on it
unfoldable pub fourth_id : Table → ℕ → ℕ → ℕ → ℕ
fourth_id t r c s = t.id s (Option.get_or (lowest t.corners (λ k. not (on_triangle t r c (t.id s k)))) 0)

-- the fourth corner of the row across
unfoldable pub far_id : Table → ℕ → ℕ → ℕ
far_id t r c = fourth_id t r c (across t r c)

-- ---- the tests

-- 13, at id v: a point out of range, or that of id 0 not three zeros
unfoldable pub off_grid : (ℕ → Point) → ℕ → Bool
off_grid at v = not (on_grid (at v)) || eqb v 0 && not (at_origin (at v))

-- 14, at row r: a finite row of zero volume
unfoldable pub flat : Table → (ℕ → Point) → ℕ → Bool
flat t at r = not (outer t r) && is_zero (product at (t.id r 0) (t.id r 1) (t.id r 2) (t.id r 3))

-- row r and the row across its triangle that leaves out corner c are finite and on the same side of it
unfoldable pub same_side : Table → (ℕ → Point) → ℕ → ℕ → Bool
same_side t at r c =
    not (outer t r) && not (outer t (across t r c)) && same_sign (side_of at (triangle t r c) (t.id r c)) (side_of at (triangle t r c) (far_id t r c))

-- 15, at row r: a finite neighbour on the same side of their triangle
unfoldable pub folded : Table → (ℕ → Point) → ℕ → Bool
folded t at r = any t.corners (same_side t at r)

-- ---- outward

-- The rising ids of the triangle of inside row r pass outward: the row's own fourth corner lies behind, or, where the row is outer, that
-- of the row across lies in front.
unfoldable pub right_way : Table → (ℕ → Point) → ℕ → ℕ → Bool
right_way t at r c = cond (outer t r) (above_zero (side_of at (triangle t r c) (far_id t r c))) (below_zero (side_of at (triangle t r c) (t.id r c)))

-- a triangle with its last two ids exchanged
unfoldable pub exchanged : List ℕ → List ℕ
exchanged ids = get_or ids 0 0 ∷ get_or ids 2 0 ∷ get_or ids 1 0 ∷ []

-- a triangle as it is listed: its ids rise, unless outward is asked for, there are points to tell it by, and rising is the wrong way
unfoldable pub triangle_as : Table → Bool → Option (ℕ → Point) → ℕ → ℕ → List ℕ
triangle_as t outward none r c = triangle t r c
triangle_as t outward (some at) r c = cond (outward && not (right_way t at r c)) (exchanged (triangle t r c)) (triangle t r c)
