use Rattle.demands.specs.Settled.{stop_is}
use Rattle.demands.proofs.settled.stop_found.Goals as goal

pub returns : goal.returns
returns c = stop_is _ _ _ _ _ _ _ c.turn.ensures
