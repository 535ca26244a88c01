use Rattle.demands.specs.Settled.{export_is}
use Rattle.demands.proofs.settled.skin_written.Goals as goal

pub returns : goal.returns
returns c = export_is _ c.write_skin.ensures
