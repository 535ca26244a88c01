use Rattle.tallies.specs.Steps.{step_at}
use Rattle.tallies.proofs.step_at.Goals as goal

pub returns : goal.returns
unfolding step_at
returns c = rw c.step.ensures
