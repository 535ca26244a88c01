use Rattle.std.proofs.Common.{arith, refl}
use Rattle.rules.specs.Below.{bit}
use Rattle.rules.specs.Laws.Count.{bit_small}
use Rattle.table.specs.Faces.{kind_of}
use Rattle.table.specs.Places.{places_fit}
use Rattle.table.specs.Walk.{walk_onward, walk_turn, walked_small}
use Rattle.table.proofs.chains.Chains.like_onward.Goals as goal

pub loop-q-init : goal.loop-q-init
loop-q-init c = (_, walk_onward _ _ _ _ c.requires.1 c.requires.3)

pub overflow_add-count : goal.overflow_add-count
unfolding bit
overflow_add-count c =
    omega (arith, c.choose-count.ensures, bit_small c.same_ids-hit.result, walked_small _ _ _ _ _ _ _ c.loop-q.invariant.1, places_fit (kind_of c.args.kind) c.requires.0)

pub loop-q-preserved : goal.loop-q-preserved
loop-q-preserved c =
    (_, walk_turn _ _ _ _ c.requires.2 (rw (c.each.ensures, c.row_count.ensures) at c.loop-q-test.true) c.loop-q.invariant.1 c.face_at-face.ensures c.face_at.ensures c.same_ids-hit.ensures c.choose-count.ensures refl refl)
