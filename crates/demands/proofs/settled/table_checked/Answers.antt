use Rattle.demands.specs.Settled.{checked}
use Rattle.demands.proofs.settled.table_checked.Goals as goal

pub returns : goal.returns
returns c = checked _ _ c.check.ensures
