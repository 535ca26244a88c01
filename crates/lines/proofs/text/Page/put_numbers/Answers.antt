use Rattle.std.proofs.Common.{refl, ◌∙◌, arith}
use Rattle.lines.specs.Lines.{number_begins}
use Rattle.lines.proofs.Lines.{number_room, number_turn}
use Rattle.lines.proofs.text.Page.put_numbers.Goals as goal

pub loop-n-init : goal.loop-n-init
loop-n-init c = (refl, number_begins _ _ _)

pub put_spaced-requires : goal.put_spaced-requires
put_spaced-requires c = omega (arith, number_room _ c.loop-n.invariant.1 c.loop-n-test.true c.requires)

pub loop-n-preserved : goal.loop-n-preserved
loop-n-preserved c = (c.put_spaced.ensures.same ∙ c.loop-n.invariant.0, number_turn _ c.loop-n.invariant.1 c.loop-n-test.true c.put_spaced.ensures.put)
