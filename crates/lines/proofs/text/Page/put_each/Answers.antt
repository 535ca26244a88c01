use Rattle.std.proofs.Common.{refl, arith, le_antisymm, mul-le-mul_left}
use Rattle.rules.specs.Below.{gather}
use Rattle.rules.specs.Laws.Lists.{gather_more}
use Rattle.lines.specs.Page.{puts_none, puts_more}
use Rattle.lines.proofs.text.Page.put_each.Goals as goal

pub loop-k-init : goal.loop-k-init
unfolding gather
loop-k-init g c = ((omega arith, refl), λ text puts. puts_none _)

pub loop-k-preserved : goal.loop-k-preserved
loop-k-preserved g c = (
  (
    omega (arith, (c.requires.few _ _ _ c.put.ensures).0, c.loop-k.invariant.0.0),
    omega (arith, (c.requires.few _ _ _ c.put.ensures).1, c.loop-k.invariant.0.1),
  ),
  λ text puts. rw (gather_more c.loop-k.k text) (puts_more (c.loop-k.invariant.1 text puts) (puts _ _ _ c.put.ensures)),
)

pub returns-clause-texts : goal.returns-clause-texts
returns-clause-texts g c = λ text puts. rw (le_antisymm c.loop-k.auto.k-end c.loop-k-test.false) at (c.loop-k.invariant.1 text puts)

pub put-requires : goal.put-requires
put-requires g c =
    c.requires.callable _ _ c.loop-k-test.true (omega (arith, c.loop-k.invariant.0.0, c.loop-k.invariant.0.1, c.requires.room, mul-le-mul_left c.args.size c.loop-k-test.true))
