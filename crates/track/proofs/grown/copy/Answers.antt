use Rattle.rules.specs.Laws.Copied.{copy_begins, copy_turn}
use Rattle.track.proofs.grown.copy.Goals as goal

pub loop-i-init : goal.loop-i-init
loop-i-init c = copy_begins _ _

pub loop-i-preserved : goal.loop-i-preserved
loop-i-preserved c = copy_turn c.loop-i.invariant c.loop-i-test.true c.requires
