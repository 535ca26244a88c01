use Rattle.std.specs.Prelude.{true}
use Rattle.rules.specs.Outward.{triangle_as}
use Rattle.table.specs.Rows.{table_in}
use Rattle.skin_list.specs.Listing.{Listing}
use Rattle.skin_list.specs.Orders.{rows_of, points_of}
use Rattle.skin_list.proofs.list_skin.Given as goal

abbrev pub invariant-loop-place : goal.invariant-loop-place
invariant-loop-place l = Listing (rows_of l.order) l.marks (triangle_as (table_in (rows_of l.order)) true (points_of l.order)) l.place l.n l.triangles l.initial.triangles
