use Rattle.demands.specs.Exports.{skin_file_lem}
use Rattle.track.specs.Outcomes.{lent}
use Rattle.demands.proofs.workshop.write_job.Goals as goal

pub returns : goal.returns
returns c = skin_file_lem _ (lent _ _ _ _) _ c.write_skin.ensures
