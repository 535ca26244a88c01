use Rattle.rules.specs.Points as R
use Rattle.volume.specs.Bound.{again, restated}
use Rattle.volume.proofs.volume.Goals as goal

pub returns : goal.returns
unfolding R.volume
returns c = again (restated c.triple.ensures (cc (c.from.ensures.is, c.from-2.ensures.is, c.from-3.ensures.is))) tt
