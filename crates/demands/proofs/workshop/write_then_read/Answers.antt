use Rattle.std.specs.Prelude.{not}
use Rattle.std.proofs.Common.{◌≡◌, true, refl, sym, ap, ◌∙◌, arith, length, length-take-le, ◌≤◌, is_ok}
use Rattle.demands.specs.BothWays.{wrote_code, read_code, not_written, writable, file_fits, read_back}
use Rattle.rules.specs.Stl.{facets_of, file_length}
use Rattle.trips.proofs.Trips.{Writable}
use Rattle.demands.proofs.workshop.write_then_read.Goals as goal

went : (c : goal.Else-is_err) → is_ok c.write_facets.result ≡ true
went c = c.is_err.ensures.negation ∙ ap not c.if-is_err.false

list_writable : (c : goal.Else-is_err) → Writable c.args.units.now (length c.args.file.now)
list_writable c = writable c.args.units.now c.args.file.now c.args.back.now c.write_facets.ensures (wrote_code c.write_facets.result) (went c)

fits : (c : goal.Else-is_err) → file_length (facets_of c.args.units.now) ≤ length c.write_facets.new.file
fits c = file_fits c.args.units.now c.args.file.now c.args.back.now c.write_facets.ensures (wrote_code c.write_facets.result) (went c)

pub returns-then-is_err : goal.returns-then-is_err
returns-then-is_err c =
    not_written c.args.units.now c.args.file.now c.args.back.now c.write_facets.ensures (wrote_code c.write_facets.result)
    (c.is_err.ensures.negation ∙ ap not c.if-is_err.true)

pub overflow_mul-size : goal.overflow_mul-size
unfolding facets_of
overflow_mul-size c = record { fits = omega (arith, (list_writable c).few) }

pub overflow_add-size : goal.overflow_add-size
unfolding facets_of
overflow_add-size c = record { fits = omega (arith, (list_writable c).few) }

pub slice_bounds-read_file-end : goal.slice_bounds-read_file-end
unfolding facets_of
slice_bounds-read_file-end c = fits c

pub slice_bounds-read_file-end-2 : goal.slice_bounds-read_file-end-2
unfolding facets_of
slice_bounds-read_file-end-2 c = sym (length-take-le _ _ (fits c))

pub returns : goal.returns
unfolding facets_of
returns c =
    read_back c.args.units.now c.args.file.now c.args.back.now c.write_facets.ensures (wrote_code c.write_facets.result)
    (c.is_err.ensures.negation ∙ ap not c.if-is_err.false) refl c.read_file.ensures (c.is_ok.ensures.value ∙ read_code c.read_file.result)
