use Rattle.std.proofs.Common.{arith, ◌∙◌}
use Rattle.growth.specs.Around.{counted_none, counted_small, counted_more}
use Rattle.tallies.specs.Area.{bit_of}
use Rattle.rules.specs.Below.{bit}
use Rattle.rules.specs.Laws.Count.{bit_small}
use Rattle.growth.proofs.closed.Closed.left_out.Goals as goal

pub loop-corner-init : goal.loop-corner-init
loop-corner-init c = counted_none

pub overflow_add-count : goal.overflow_add-count
overflow_add-count c = omega (arith, c.from-count.ensures, bit_of c.on_skin-hit.result, bit_small c.on_skin-hit.result, counted_small c.loop-corner.invariant)

pub loop-corner-preserved : goal.loop-corner-preserved
unfolding bit
loop-corner-preserved c = counted_more c.loop-corner.invariant c.on_skin-hit.ensures (c.from-count.ensures ∙ bit_of c.on_skin-hit.result) c.choose-last.ensures
