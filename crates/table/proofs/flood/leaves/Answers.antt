use Rattle.rules.specs.Reading.Moves.{leaves}
use Rattle.table.proofs.flood.leaves.Goals as goal

pub returns : goal.returns
unfolding leaves
returns c = rw c.id_at-id.ensures
