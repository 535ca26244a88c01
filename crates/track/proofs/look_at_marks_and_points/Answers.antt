use Rattle.std.proofs.Common.{refl, sym, ap, ◌∙◌}
use Rattle.std.proofs.lemmas.Result.{err_from_is_err_and}
use Rattle.marks.specs.Start as start
use Rattle.points.specs.Placed as placed
use Rattle.track.specs.Refusals.{unfit_code}
use Rattle.track.specs.Stages.{by_marks, by_points}
use Rattle.track.proofs.look_at_marks_and_points.Goals as goal

pub returns-in_err-check_marks : goal.returns-in_err-check_marks
returns-in_err-check_marks c =
    let p = err_from_is_err_and c.from_residual.result c.from_residual.ensures.1 in
    rw (p.1, p.2) (by_marks c.args.h _ _ _ (ap start.verdict_of (sym c.in_err-check_marks.was) ∙ rw c.requires.0 at c.check_marks.ensures) (unfit_code _))

pub returns-in_err-look_at_points : goal.returns-in_err-look_at_points
returns-in_err-look_at_points c =
    let p = err_from_is_err_and c.from_residual-in_err-look_at_points.result c.from_residual-in_err-look_at_points.ensures.1 in
    rw (p.1, p.2) (by_points c.args.h _ _ _ (ap start.verdict_of (sym c.in_ok-check_marks.was) ∙ rw c.requires.0 at c.check_marks.ensures) refl
    (ap placed.verdict_of (sym c.in_err-look_at_points.was) ∙ c.look_at_points.ensures))

pub returns : goal.returns
returns c =
    by_points c.args.h _ _ _ (ap start.verdict_of (sym c.in_ok-check_marks.was) ∙ rw c.requires.0 at c.check_marks.ensures) refl
    (ap placed.verdict_of (sym c.in_ok-look_at_points.was) ∙ c.look_at_points.ensures)
