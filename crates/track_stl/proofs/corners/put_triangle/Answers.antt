use Rattle.std.proofs.Common.{sym, ◌∙◌, subst, ℕ, ◌+◌, ◌*◌, ◌<◌, arith, rules}
use Rattle.rules.specs.Points.{point_in}
use Rattle.stl.specs.Corners.{Numbers}
use Rattle.track_stl.specs.Corners.{id_corner, triangle_facet, id_numbers}
use Rattle.points.specs.Tested.{placed_grid}
use Rattle.track_stl.proofs.corners.put_triangle.Goals as goal

pub put_facet-requires : goal.put_facet-requires
put_facet-requires c =
    let k = c.args.k in
    let numbers : (i : ℕ) → i < 3 * k + 3 → Numbers (id_corner (point_in c.args.placed.points.now) c.args.triangles.now i) =
    λ i l. id_numbers (placed_grid c.args.placed.tested.1 c.args.placed.tested.2 c.args.placed.tested.3) c.args.triangles.now i (c.requires.1 i l) in (
      search rules,
      subst Numbers (sym c.corner_in-a.ensures) (numbers (3 * k) (omega arith)),
      subst Numbers (sym c.corner_in-b.ensures) (numbers (3 * k + 1) (omega arith)),
      subst Numbers (sym c.corner_in-c.ensures) (numbers (3 * k + 2) (omega arith)),
    )

pub returns : goal.returns
unfolding triangle_facet
returns c =
    c.put_facet.ensures ∙ rw (c.corner_in-a.ensures, c.corner_in-b.ensures, c.corner_in-c.ensures)
