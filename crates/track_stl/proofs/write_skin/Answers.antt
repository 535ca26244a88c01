use Rattle.std.proofs.Common.{refl}
use Rattle.std.proofs.lemmas.Result.{err_from_is_err_and}
use Rattle.job.specs.Reading.{laid_header}
use Rattle.track.specs.Outcomes.{lent}
use Rattle.track.specs.Refusals.{refusal_code}
use Rattle.track_stl.specs.Ran.{run_refused, run_accepted, laid, header_read, ran_is, triangles_told}
use Rattle.track_stl.proofs.write_skin.Goals as goal

pub returns-in_err-ran : goal.returns-in_err-ran
returns-in_err-ran c =
    let p = err_from_is_err_and c.from_residual.result c.from_residual.ensures.1 in
    rw (p.1, p.2)
    (run_refused c.args.job.now (lent c.args.answers.now c.args.final_marks.now c.args.triangles.now c.args.work.now) (rw c.in_err-ran.was at c.run.ensures) c.args.file.now
    (refusal_code _))

-- a job that was run is laid out
pub unreachable-requires : goal.unreachable-requires
unreachable-requires c =
    let before = lent c.args.answers.now c.args.final_marks.now c.args.triangles.now c.args.work.now in
    header_read (laid c.args.job.now before (rw c.in_ok-ran.was at c.run.ensures) refl c.read.result c.read.ensures.0) c.in_default.not-Ok

pub write_ran-requires : goal.write_ran-requires
write_ran-requires c =
    let job = c.args.job.now in
    let before = lent c.args.answers.now c.args.final_marks.now c.args.triangles.now c.args.work.now in
    let ran = rw c.in_ok-ran.was at c.run.ensures in
    (ran_is job before ran refl (laid_header job c.read.ensures c.in-Ok.is).0, triangles_told job before ran refl)

pub returns : goal.returns
returns c =
    let before = lent c.args.answers.now c.args.final_marks.now c.args.triangles.now c.args.work.now in
    let ran = rw c.in_ok-ran.was at c.run.ensures in
    let (kept, as-told) = c.write_ran.ensures in
    rw kept (run_accepted c.args.job.now before ran c.args.file.now refl (as-told _))
