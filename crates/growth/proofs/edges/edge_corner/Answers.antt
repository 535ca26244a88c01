use Rattle.std.proofs.Common.{◌∙◌}
use Rattle.growth.specs.Edges.{edge_corner_read}
use Rattle.growth.proofs.edges.edge_corner.Goals as goal

pub returns : goal.returns
returns c = c.corner_at.ensures ∙ edge_corner_read _ c.requires.0 _ c.requires.1
