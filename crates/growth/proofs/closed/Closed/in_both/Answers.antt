use Rattle.std.proofs.Common.{lit<}
use Rattle.growth.specs.Edges.{in_both, edge_below}
use Rattle.growth.proofs.closed.Closed.in_both.Goals as goal

pub on_skin-requires : goal.on_skin-requires
on_skin-requires c = (c.requires.0, rw c.edge_corner.ensures (edge_below _ 0 c.requires.1 (lit< tt)))

pub on_skin-requires-2 : goal.on_skin-requires-2
on_skin-requires-2 c = (c.requires.0, rw c.edge_corner-2.ensures (edge_below _ 1 c.requires.1 (lit< tt)))

pub returns : goal.returns
unfolding in_both
returns c = rw (c.on_skin.ensures, c.on_skin-2.ensures, c.edge_corner.ensures, c.edge_corner-2.ensures)
