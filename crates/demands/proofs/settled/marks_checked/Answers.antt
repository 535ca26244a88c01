use Rattle.demands.specs.Settled.{unfit_is}
use Rattle.demands.proofs.settled.marks_checked.Goals as goal

pub returns : goal.returns
returns c = unfit_is _ c.check_marks.ensures
