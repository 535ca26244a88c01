use Rattle.std.proofs.Common.{ap, ◌∙◌, ℕ}
use Rattle.growth.specs.Edges.{edge_corner, opposite_edge_below, opposite_corner_read}
use Rattle.growth.proofs.edges.opposite_corner.Goals as goal

pub edge_corner-requires : goal.edge_corner-requires
edge_corner-requires c = (rw c.opposite.ensures (opposite_edge_below _ c.requires.0), c.requires.1)

pub returns : goal.returns
returns c =
    c.edge_corner.ensures ∙ ap (λ (e : ℕ). edge_corner e c.args.k) c.opposite.ensures ∙ opposite_corner_read _ c.requires.0 _ c.requires.1
