use Rattle.std.proofs.Common.{refl, rules}
use Rattle.track.specs.Outcomes.{lent}
use Rattle.track_stl.specs.Outcomes.{verdict_of, outcome_of}
use Rattle.track_c.specs.Told.{outcome_told, skin_fits, skin_told}
use Rattle.track_c.proofs.files.track_stl_run.Goals as goal

pub tell_run-requires : goal.tell_run-requires
tell_run-requires c =
    rw (outcome_told verdict_of outcome_of (λ g. refl) (λ e. refl) (λ e p told. search rules) c.write_skin-written.result c.map_err.result c.map_err.ensures.cases)
    (skin_fits _ (lent _ _ _ _) _ c.write_skin-written.ensures)

pub returns : goal.returns
returns c =
    skin_told _ (lent _ _ _ _) _ c.write_skin-written.ensures _
    (rw (outcome_told verdict_of outcome_of (λ g. refl) (λ e. refl) (λ e p told. search rules) c.write_skin-written.result c.map_err.result c.map_err.ensures.cases) at
    c.tell_run.ensures)
