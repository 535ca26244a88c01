use Rattle.std.proofs.Common.{refl, ◌∙◌, lit<}
use Rattle.growth.specs.About.{edge_start}
use Rattle.growth.specs.Edges.{edge_below, opposite_below, corners_apart}
use Rattle.growth.specs.Free.{both_edge}
use Rattle.growth.specs.Tested.{closed_of}
use Rattle.table.specs.Rows.{table_in}
use Rattle.growth.proofs.closed.Closed.edge_free.Goals as goal

pub id_at-a-requires : goal.id_at-a-requires
id_at-a-requires c = rw c.opposite_corner.ensures (c.requires.0, opposite_below _ 0 c.shared_edge-shared.ensures.0 (lit< tt))

pub id_at-b-requires : goal.id_at-b-requires
id_at-b-requires c = rw c.opposite_corner-2.ensures (c.requires.0, opposite_below _ 1 c.shared_edge-shared.ensures.0 (lit< tt))

pub across-last-requires : goal.across-last-requires
across-last-requires c = rw c.edge_corner.ensures (c.requires.0, edge_below _ 0 c.shared_edge-shared.ensures.0 (lit< tt))

pub about_free-requires : goal.about_free-requires
about_free-requires c =
    let ((_, on_ground, _), _) = closed_of _ c.args.self.table.tested c.args.self.tested in
    let low = c.shared_edge-shared.ensures.0 in
    rw (c.across-last.ensures, c.edge_corner.ensures, c.id_at-b.ensures, c.id_at-a.ensures, c.opposite_corner-2.ensures, c.opposite_corner.ensures)
    (edge_start on_ground.paired refl _ c.requires.0 _ _ _ (opposite_below _ 0 low (lit< tt)) (opposite_below _ 1 low (lit< tt)) (edge_below _ 0 low (lit< tt)) (corners_apart _ low))

pub returns : goal.returns
returns c =
    c.about_free.ensures
    ∙ rw (c.id_at-a.ensures, c.id_at-b.ensures, c.opposite_corner.ensures, c.opposite_corner-2.ensures, c.shared_edge-shared.ensures.1) (both_edge (table_in _) _ _ _ _)
