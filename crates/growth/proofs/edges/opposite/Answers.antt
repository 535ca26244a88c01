use Rattle.std.proofs.Common.{refl}
use Rattle.growth.specs.Edges.{opposite_edge}
use Rattle.growth.proofs.edges.opposite.Goals as goal

pub returns : goal.returns
unfolding opposite_edge
returns c = refl
