use Rattle.std.proofs.Common.{refl, sym, ap, ◌∙◌, arith, Err}
use Rattle.std.proofs.lemmas.Result.{err_from_is_err_and}
use Rattle.stl.specs.Reading.{left_by, told_reading, facets_readable}
use Rattle.stl.proofs.reader.read_file.Goals as goal

pub returns-in_err-count : goal.returns-in_err-count
unfolding left_by
returns-in_err-count c =
    let p = err_from_is_err_and c.from_residual.result c.from_residual.ensures.1 in
    rw p.1 (told_reading c.args.file.now c.args.units.now (ap Err p.2 ∙ sym c.in_err-count.was ∙ c.judge.ensures) refl)

pub put_units-requires : goal.put_units-requires
put_units-requires c =
    let (taken, all) = facets_readable c.args.file.now c.args.units.now c.in_ok-count.count (sym c.judge.ensures ∙ c.in_ok-count.was) in
    (omega (arith, taken.long, all), omega (arith, taken.few, all), all, omega (arith, taken.roomy, all))

pub returns : goal.returns
unfolding left_by
returns c = told_reading c.args.file.now c.args.units.now (sym c.in_ok-count.was ∙ c.judge.ensures) c.put_units.ensures
