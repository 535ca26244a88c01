use Rattle.table.specs.Faces.{vertex_is}
use Rattle.table.specs.Rows.{table_in}
use Rattle.table.proofs.faces.Face.vertex.Goals as goal

pub returns : goal.returns
returns c = vertex_is (table_in _) _ _ c.requires.1 c.id_at-id.ensures
