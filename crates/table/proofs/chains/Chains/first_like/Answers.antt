use Rattle.std.proofs.Common.{arith}
use Rattle.table.specs.Faces.{key_below}
use Rattle.table.specs.Walk.{miss_begins, miss_turn, miss_ends, hit_ends}
use Rattle.std.proofs.Common.{refl}
use Rattle.table.proofs.chains.Chains.first_like.Goals as goal

pub bounds-self-key : goal.bounds-self-key
bounds-self-key c = rw c.key.ensures (key_below _)

pub offset_bounds-self-key : goal.offset_bounds-self-key
offset_bounds-self-key c = omega (arith, c.key.ensures, key_below c.face_at-face.result)

pub loop-q-init : goal.loop-q-init
loop-q-init c = rw (c.key.ensures, c.face_at-face.ensures) (miss_begins _ _ _ _ c.requires.2)

pub returns-then-same_ids : goal.returns-then-same_ids
returns-then-same_ids c = hit_ends _ _ _ _ c.loop-q-test.true c.face_at-face.ensures c.face_at.ensures c.same_ids.ensures c.if-same_ids.true

pub loop-q-preserved : goal.loop-q-preserved
loop-q-preserved c =
    miss_turn _ _ _ _ c.requires.2 (omega (arith, c.requires.1, c.loop-q-test.true)) c.loop-q.invariant c.face_at-face.ensures c.face_at.ensures c.same_ids.ensures c.if-same_ids.false refl

pub returns : goal.returns
returns c = miss_ends _ _ _ _ c.loop-q-test.false c.loop-q.invariant
