use Rattle.std.proofs.Common.{refl}
use Rattle.rules.specs.Below.{gather, tabulate}
use Rattle.rules.specs.Shape.{triangle_table, edge_table, vertices as vertex_table}
use mathlib.Core.List.{flatten}
use Rattle.table.specs.Faces.{face_corners, corner_of}
use Rattle.table.proofs.faces.corner_at.Goals as goal

pub returns : goal.returns
unfolding corner_of face_corners triangle_table edge_table vertex_table tabulate gather flatten
returns c = refl
