use Rattle.std.proofs.Common.{arith, refl}
use Rattle.std.proofs.lemmas.Result.{err_from_is_err_and}
use Rattle.track.specs.Cut.{counted}
use Rattle.track.specs.Refusals.{broken_code}
use Rattle.track.specs.Sections.{table_refused, ready, table_passed}
use Rattle.track.proofs.run_laid.Goals as goal

pub check-requires : goal.check-requires
check-requires c =
    let rows_counted = counted c.args.job.now c.requires.is c.requires.long c.rows_at-rows_at.ensures c.marks_at-marks_at.ensures c.proposals_at-proposals_at.ensures c.points_at-points_at.ensures in
    (rw rows_counted c.requires.few, omega (arith, rows_counted, c.requires.work_room_lem))

pub returns-in_err-check : goal.returns-in_err-check
returns-in_err-check c =
    let p = err_from_is_err_and c.from_residual.result c.from_residual.ensures.1 in
    let (found, left) = rw c.in_err-check.was at c.check.ensures in
    rw (p.1, p.2)
    (table_refused c.requires c.rows_at-rows_at.ensures c.marks_at-marks_at.ensures c.proposals_at-proposals_at.ensures c.points_at-points_at.ensures
    _ found left (broken_code _))

pub run_closed-requires : goal.run_closed-requires
run_closed-requires c =
    let rows = c.rows_at-rows_at.ensures in let marks = c.marks_at-marks_at.ensures in let proposals = c.proposals_at-proposals_at.ensures in let points = c.points_at-points_at.ensures in
    let (found, left) = rw c.in_ok-check.was at c.check.ensures in
    ready c.requires rows marks proposals points _ found left refl

pub returns : goal.returns
returns c =
    let (found, left) = rw c.in_ok-check.was at c.check.ensures in
    table_passed c.requires c.rows_at-rows_at.ensures c.marks_at-marks_at.ensures c.proposals_at-proposals_at.ensures c.points_at-points_at.ensures
    _ found left refl c.run_closed.ensures
