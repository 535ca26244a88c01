use Rattle.demands.specs.Settled.{misplaced_is}
use Rattle.demands.proofs.settled.points_checked.Goals as goal

pub returns : goal.returns
returns c = misplaced_is _ c.check_points.ensures
