use Rattle.std.proofs.Common.{arith}
use Rattle.rules.specs.Below.{bit}
use Rattle.rules.specs.Laws.Count.{bit_small}
use Rattle.table.specs.Faces.{key_below}
use Rattle.table.specs.Places.{places_fit}
use Rattle.table.specs.Walk.{walk_begins, walk_turn, walked_small}
use Rattle.table.specs.Faces.{kind_of}
use Rattle.std.proofs.Common.{refl}
use Rattle.table.proofs.chains.Chains.like_places.Goals as goal

pub bounds-self-key : goal.bounds-self-key
bounds-self-key c = rw c.key.ensures (key_below _)

pub offset_bounds-self-key : goal.offset_bounds-self-key
offset_bounds-self-key c = omega (arith, c.key.ensures, key_below c.face_at-face.result)

pub loop-q-init : goal.loop-q-init
loop-q-init c = rw (c.key.ensures, c.face_at-face.ensures) (walk_begins _ _ _ _ c.requires.2)

pub overflow_add-count : goal.overflow_add-count
unfolding bit
overflow_add-count c =
    omega (arith, c.choose-count.ensures, bit_small c.same_ids-hit.result, walked_small _ _ _ _ _ _ _ c.loop-q.invariant, places_fit (kind_of c.args.kind) c.requires.0)

pub loop-q-preserved : goal.loop-q-preserved
loop-q-preserved c = walk_turn _ _ _ _ c.requires.2 (rw (c.each.ensures, c.row_count.ensures) at c.loop-q-test.true) c.loop-q.invariant c.face_at-face.ensures c.face_at.ensures c.same_ids-hit.ensures c.choose-count.ensures c.choose-other.ensures refl
