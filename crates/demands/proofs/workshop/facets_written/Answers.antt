use Rattle.demands.specs.Settled.{writing_is}
use Rattle.demands.proofs.workshop.facets_written.Goals as goal

pub returns : goal.returns
returns c = writing_is _ c.write_facets.ensures
