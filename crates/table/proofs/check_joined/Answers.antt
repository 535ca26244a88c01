use Rattle.std.proofs.Common.{refl}
use Rattle.values.specs.Places.{none_of}
use Rattle.table.specs.Closed.{left_of, edge_broken, vertex_broken, all_joined}
use Rattle.table.proofs.check_joined.Goals as goal

pub returns-in-Some : goal.returns-in-Some
unfolding left_of
returns-in-Some c = (edge_broken _ _ c.broken_face.ensures c.in-Some.is, c.clear.ensures)

pub returns-in-Some-broken_face : goal.returns-in-Some-broken_face
unfolding left_of
returns-in-Some-broken_face c = (vertex_broken _ _ c.broken_face.ensures (none_of c.in_default.not-Some) _ c.broken_face-2.ensures c.in-Some-broken_face.is, c.clear-in-Some-broken_face.ensures)

pub returns : goal.returns
unfolding left_of
returns c = (all_joined _ _ c.broken_face.ensures (none_of c.in_default.not-Some) _ c.broken_face-2.ensures (none_of c.in_default-broken_face.not-Some), refl)
