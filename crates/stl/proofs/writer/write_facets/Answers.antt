use Rattle.std.proofs.Common.{refl, sym, ap, ◌∙◌, length, Err}
use Rattle.std.proofs.lemmas.Result.{err_from_is_err_and}
use Rattle.stl.specs.Writing.{left_by, told_writing, done_writable, all_in}
use Rattle.stl.proofs.writer.write_facets.Goals as goal

pub returns-in_err-judge : goal.returns-in_err-judge
unfolding left_by
returns-in_err-judge c =
    let p = err_from_is_err_and c.from_residual.result c.from_residual.ensures.1 in
    rw p.1 (told_writing c.args.units.now c.args.file.now (ap Err p.2 ∙ sym c.in_err-judge.was ∙ c.judge.ensures) refl)

pub put_file-requires : goal.put_file-requires
put_file-requires c =
    let w = done_writable c.args.units.now (length c.args.file.now) (sym c.judge.ensures ∙ c.in_ok-judge.was) in
    (w.roomy, w.few, all_in w)

pub returns : goal.returns
unfolding left_by
returns c = told_writing c.args.units.now c.args.file.now (sym c.in_ok-judge.was ∙ c.judge.ensures) c.put_file.ensures
