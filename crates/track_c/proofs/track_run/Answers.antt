use Rattle.std.proofs.Common.{refl, rules}
use Rattle.track.specs.Refusals.{verdict_of}
use Rattle.track.specs.Outcomes.{lent, outcome_of}
use Rattle.track_c.specs.Told.{outcome_told, run_fits, run_told}
use Rattle.track_c.proofs.track_run.Goals as goal

pub tell_run-requires : goal.tell_run-requires
tell_run-requires c =
    rw (outcome_told verdict_of outcome_of (λ g. refl) (λ e. refl) (λ e p told. search rules) c.run-ran.result c.map_err.result c.map_err.ensures.cases)
    (run_fits _ (lent _ _ _ _) c.run-ran.ensures)

pub returns : goal.returns
returns c =
    run_told _ (lent _ _ _ _) c.run-ran.ensures _
    (rw (outcome_told verdict_of outcome_of (λ g. refl) (λ e. refl) (λ e p told. search rules) c.run-ran.result c.map_err.result c.map_err.ensures.cases) at
    c.tell_run.ensures)
