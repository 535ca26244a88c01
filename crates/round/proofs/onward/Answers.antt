use Rattle.round.specs.Edge.{sought_none, sought_more}
use Rattle.round.proofs.onward.Goals as goal

pub loop-corner-init : goal.loop-corner-init
loop-corner-init c = sought_none c.across-row.ensures c.id_at-id.ensures

pub loop-corner-preserved : goal.loop-corner-preserved
loop-corner-preserved c = sought_more c.loop-corner.invariant c.id_at-left.ensures c.across-across.ensures c.choose-row.ensures c.choose-id.ensures
