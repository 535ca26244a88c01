use Rattle.std.proofs.Common.{arith}
use Rattle.growth.specs.Answers.{answering_begins, answering_turn, answering_ends, taken_small}
use Rattle.growth.proofs.answer_all.Goals as goal

pub loop-k-init : goal.loop-k-init
loop-k-init c = answering_begins _ _ _ _ _ c.requires.0.area

pub overflow_add-taken : goal.overflow_add-taken
overflow_add-taken c = omega (arith, taken_small _ _ _ _ _ c.loop-k.invariant c.answer_one-taken.ensures.0, c.loop-k-test.true)

pub loop-k-preserved : goal.loop-k-preserved
loop-k-preserved c = answering_turn _ _ _ _ _ c.loop-k.invariant c.requires.1 c.loop-k-test.true c.answer_one-taken.ensures

pub returns : goal.returns
returns c = answering_ends _ _ _ _ _ c.loop-k.invariant c.loop-k-test.false
