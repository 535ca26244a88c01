use Rattle.demands.specs.Settled.{found_is}
use Rattle.demands.proofs.settled.vertex_found.Goals as goal

pub returns : goal.returns
returns c = found_is _ c.ringless_vertex.ensures
