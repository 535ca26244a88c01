use Rattle.std.proofs.Common.{length-take-le, sym}
use Rattle.track.specs.Headers.{header_refused, few_ids_and_rows, room_refused, laid_out_lem, work_fits, room_enough}
use Rattle.std.proofs.lemmas.Result.{err_from_is_err_and}
use Rattle.track.specs.Outcomes.{lent}
use Rattle.track.specs.Refusals.{header_code}
use Rattle.track.proofs.run.Goals as goal

pub room_short-requires : goal.room_short-requires
room_short-requires c =
    few_ids_and_rows c.args.job.now (lent c.args.answers.now c.args.final_marks.now c.args.triangles.now c.args.work.now) c.read.ensures c.in_ok-h.was

pub returns-then-room_short : goal.returns-then-room_short
returns-then-room_short c = room_refused _ (lent _ _ _ _) c.read.ensures c.in_ok-h.was c.room_short.ensures c.if-room_short.true

pub work_room-room-requires : goal.work_room-room-requires
work_room-room-requires c =
    few_ids_and_rows c.args.job.now (lent c.args.answers.now c.args.final_marks.now c.args.triangles.now c.args.work.now) c.read.ensures c.in_ok-h.was

pub slice_bounds-run_laid-end : goal.slice_bounds-run_laid-end
slice_bounds-run_laid-end c =
    rw c.work_room-room.ensures (work_fits c.args.job.now (lent c.args.answers.now c.args.final_marks.now c.args.triangles.now c.args.work.now) c.read.ensures c.in_ok-h.was c.room_short.ensures c.if-room_short.false)

pub slice_bounds-run_laid-end-2 : goal.slice_bounds-run_laid-end-2
slice_bounds-run_laid-end-2 c =
    sym (length-take-le c.work_room-room.result c.args.work.now (rw c.work_room-room.ensures (work_fits c.args.job.now (lent c.args.answers.now c.args.final_marks.now c.args.triangles.now c.args.work.now) c.read.ensures c.in_ok-h.was c.room_short.ensures c.if-room_short.false)))

pub run_laid-requires : goal.run_laid-requires
run_laid-requires c = rw c.work_room-room.ensures (laid_out_lem _ (lent _ _ _ _) c.read.ensures c.in_ok-h.was c.room_short.ensures c.if-room_short.false)

pub returns-in_err-h : goal.returns-in_err-h
returns-in_err-h c =
    let p = err_from_is_err_and c.from_residual.result c.from_residual.ensures.1 in
    rw (p.1, p.2) (header_refused _ (lent _ _ _ _) (rw c.in_err-h.was at c.read.ensures.0) (header_code _))

pub returns : goal.returns
returns c =
    rw c.work_room-room.ensures (room_enough _ (lent _ _ _ _) c.read.ensures c.in_ok-h.was c.room_short.ensures c.if-room_short.false (rw c.work_room-room.ensures at c.run_laid.ensures))
