use Rattle.std.specs.Prelude.{not}
use Rattle.std.proofs.Common.{◌≡◌, true, sym, ap, ◌∙◌, ◌-◌, ◌*◌, ◌/◌, ◌≤◌, arith, length, length-take-le, is_ok}
use Rattle.demands.specs.BothWays.{wrote_code, read_code, not_read, readable, units_fit, write_again}
use Rattle.rules.specs.Stl.{count_in}
use Rattle.trips.proofs.Trips.{Readable}
use Rattle.demands.proofs.workshop.read_then_write.Goals as goal

went : (c : goal.Else-is_err) → is_ok c.read_file.result ≡ true
went c = c.is_err.ensures.negation ∙ ap not c.if-is_err.false

file_readable : (c : goal.Else-is_err) → Readable c.args.file.now (length c.args.units.now)
file_readable c = readable c.args.file.now c.args.units.now c.args.again.now c.read_file.ensures (read_code c.read_file.result) (went c)

fits : (c : goal.Else-is_err) → 9 * count_in c.args.file.now ≤ length c.read_file.new.units
fits c = units_fit c.args.file.now c.args.units.now c.args.again.now c.read_file.ensures (read_code c.read_file.result) (went c)

pub returns-then-is_err : goal.returns-then-is_err
returns-then-is_err c =
    not_read c.args.file.now c.args.units.now c.args.again.now c.read_file.ensures (read_code c.read_file.result)
    (c.is_err.ensures.negation ∙ ap not c.if-is_err.true)

pub overflow_sub-size : goal.overflow_sub-size
overflow_sub-size c = omega (arith, (file_readable c).long)

pub slice_bounds-write_facets-end : goal.slice_bounds-write_facets-end
slice_bounds-write_facets-end c = omega (arith, (file_readable c).long, fits c)

pub slice_bounds-write_facets-end-2 : goal.slice_bounds-write_facets-end-2
slice_bounds-write_facets-end-2 c = sym (length-take-le _ _ (omega (arith, (file_readable c).long, fits c)))

pub returns : goal.returns
returns c =
    let told = read_code c.read_file.result in
    let taken : is_ok c.read_file.result ≡ true = c.is_err.ensures.negation ∙ ap not c.if-is_err.false in
    let r = readable c.args.file.now c.args.units.now c.args.again.now c.read_file.ensures told taken in
    let size : (length c.args.file.now - 84) / 50 * 9 ≡ 9 * count_in c.args.file.now = omega (arith, r.long) in
    write_again c.args.file.now c.args.units.now c.args.again.now c.read_file.ensures told taken
    (λ k. omega (arith, c.type_inv.file k)) size c.write_facets.ensures (c.is_ok.ensures.value ∙ wrote_code c.write_facets.result)
