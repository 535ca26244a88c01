use Rattle.rings.specs.Far.{first_end}
use Rattle.rings.proofs.ring.first_end.Goals as goal

pub returns : goal.returns
unfolding first_end
returns c = c.choose.ensures
