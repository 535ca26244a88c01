use Rattle.demands.specs.Kept.{kept}
use Rattle.track.specs.Outcomes.{lent}
use Rattle.demands.proofs.run.Goals as goal

pub returns : goal.returns
returns c = kept _ (lent _ _ _ _) c.run.ensures
