use Rattle.std.proofs.Common.{refl}
use Rattle.tallies.specs.Steps.{step_row, turn_steppable, turn_stepped}
use Rattle.tallies.proofs.step_row.Goals as goal

pub loop-corner-init : goal.loop-corner-init
unfolding step_row
loop-corner-init c = refl

pub step_at-requires : goal.step_at-requires
step_at-requires c = turn_steppable c.requires.0 c.loop-corner.corner c.loop-corner.invariant c.loop-corner-test.true c.id_at.ensures

pub loop-corner-preserved : goal.loop-corner-preserved
loop-corner-preserved c = turn_stepped c.requires.0 c.loop-corner.corner c.loop-corner.invariant c.loop-corner-test.true c.id_at.ensures c.step_at.ensures
