use Rattle.demands.specs.Settled.{reading_is}
use Rattle.demands.proofs.settled.header_read.Goals as goal

pub returns : goal.returns
returns c = reading_is _ c.read.ensures
