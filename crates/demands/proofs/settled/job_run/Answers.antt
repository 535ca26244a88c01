use Rattle.demands.specs.Settled.{run_is}
use Rattle.demands.proofs.settled.job_run.Goals as goal

pub returns : goal.returns
returns c = run_is _ c.run.ensures
