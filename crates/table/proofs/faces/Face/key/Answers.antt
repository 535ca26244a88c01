use Rattle.std.proofs.Common.{refl}
use Rattle.table.specs.Faces.{key_of}
use Rattle.table.proofs.faces.Face.key.Goals as goal

pub returns : goal.returns
unfolding key_of
returns c = refl
