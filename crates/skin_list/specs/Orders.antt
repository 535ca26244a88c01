-- The order in which the ids of a triangle are listed, by what tells it.
use Rattle.std.specs.Prelude.{◌≡◌, refl, List, ℕ, Bool, true, false, not, cond}
use Rattle.rules.specs.Outward.{right_way, triangle_as}
use Rattle.rules.specs.Table.{Table}
use Rattle.rules.specs.Reading.Closed.{Paired}
use Rattle.table.specs.Rows.{table_in}
use Rattle.table.specs.Tested.{grounded_of}
use Rattle.std.proofs.Math.Option.{Option, some, none}
use Rattle.rules.specs.Points.{Point, point_in}
use Rattle.skin_list.specs.declared.order.Order.{Order}
use Rattle.skin_list.specs.declared.order.Order.TheVariants.{Rising, Outward}

-- the bytes of its rows
abbrev pub rows_of : Order → List ℕ
rows_of (Rising t) = t.rows.now
rows_of (Outward p) = p.table.rows.now

-- the words with its neighbour list
abbrev pub neighbours_of : Order → List ℕ
neighbours_of (Rising t) = t.neighbours.now
neighbours_of (Outward p) = p.table.neighbours.now

-- the bytes of its points with V, or none
abbrev pub lent_of : Order → Option (List ℕ × ℕ)
lent_of (Rising t) = none
lent_of (Outward p) = some (p.points.now, p.ids)

-- the points by which a triangle is listed outward, or none
abbrev pub points_of : Order → Option (ℕ → Point)
points_of (Rising t) = none
points_of (Outward p) = some (point_in p.points.now)

-- rising ids are the wrong way
abbrev pub is_turned : Order → ℕ → ℕ → Bool
is_turned (Rising t) r c = false
is_turned (Outward p) r c = not (right_way (table_in p.table.rows.now) (point_in p.points.now) r c)

-- its rows keep rules 5 to 7 below some V
pub paired_of : (order : Order) → (ids : ℕ) × Paired (table_in (rows_of order)) ids
paired_of (Rising t) = let (ids, on_ground) = grounded_of t.tested in (ids, on_ground.paired)
paired_of (Outward p) = let (ids, on_ground) = grounded_of p.table.tested in (ids, on_ground.paired)

-- what is listed by the points of an order is what is listed as it was asked for: rising, no point is read
pub order_asked : (t : Table) (outward : Bool) (at : ℕ → Point) {points : Option (ℕ → Point)} → points ≡ cond outward (some at) none
    → triangle_as t true points ≡ triangle_as t outward (some at)
unfolding triangle_as
order_asked t true at e = rw e refl
order_asked t false at e = rw e refl
