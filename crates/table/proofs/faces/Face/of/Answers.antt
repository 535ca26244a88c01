use Rattle.std.proofs.Common.{lit<}
use Rattle.table.specs.Faces.{corner_below, face_is}
use Rattle.table.proofs.faces.Face.of.Goals as goal

pub id_at-requires : goal.id_at-requires
id_at-requires c = (c.requires.0, rw c.corner_at.ensures (corner_below _ _ c.requires.1 (lit< tt)))

pub id_at-requires-2 : goal.id_at-requires-2
id_at-requires-2 c = (c.requires.0, rw c.corner_at-2.ensures (corner_below _ _ c.requires.1 (lit< tt)))

pub id_at-requires-3 : goal.id_at-requires-3
id_at-requires-3 c = (c.requires.0, rw c.corner_at-3.ensures (corner_below _ _ c.requires.1 (lit< tt)))

pub returns : goal.returns
returns c = face_is _ _ _ c.corner_at.ensures c.corner_at-2.ensures c.corner_at-3.ensures c.id_at.ensures c.id_at-2.ensures c.id_at-3.ensures
