use Rattle.std.proofs.Common.{refl}
use Rattle.rings.specs.Far.{in_face}
use Rattle.rings.proofs.tallies.in_face.Goals as goal

pub returns : goal.returns
unfolding in_face
returns c = refl
