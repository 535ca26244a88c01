use Rattle.std.proofs.Common.{refl}
use Rattle.table.specs.Faces.{same_ids}
use Rattle.table.proofs.faces.Face.same_ids.Goals as goal

pub returns : goal.returns
unfolding same_ids
returns c = refl
