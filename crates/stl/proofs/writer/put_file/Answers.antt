use Rattle.std.proofs.Common.{rules, ◌*◌, arith}
use Rattle.rules.specs.Laws.Stl.{facet_length}
use Rattle.rules.specs.Stl.{facet_bytes, facets_of, file_of}
use Rattle.stl.specs.Filling.{fill_begins, fill_turn, fill_ends}
use Rattle.stl.proofs.writer.put_file.Goals as goal

pub overflow_cast-facets : goal.overflow_cast-facets
unfolding facets_of
overflow_cast-facets c = record { fits = omega (arith, c.requires.1) }

pub loop-f-init : goal.loop-f-init
unfolding facets_of
loop-f-init c =
    let units = c.args.units.now in
    fill_begins (facets_of units) (λ k. facet_bytes units (9 * k)) (λ k. facet_length units (9 * k)) c.args.file.now c.requires.0 c.put_front.ensures

pub put_facet_of-requires : goal.put_facet_of-requires
unfolding facets_of
put_facet_of-requires c =
    let filled = c.loop-f.invariant in
    (omega (arith, filled.kept, filled.room), search rules, omega (arith, c.requires.1), c.requires.2)

pub loop-f-preserved : goal.loop-f-preserved
unfolding facets_of
loop-f-preserved c =
    let units = c.args.units.now in
    fill_turn (facets_of units) (λ k. facet_bytes units (9 * k)) (λ k. facet_length units (9 * k)) c.loop-f.invariant c.loop-f-test.true c.put_facet_of.ensures

pub returns : goal.returns
unfolding facets_of file_of
returns c =
    let units = c.args.units.now in
    fill_ends (facets_of units) (λ k. facet_bytes units (9 * k)) (λ k. facet_length units (9 * k)) c.args.file.now c.put_front.ensures c.loop-f.invariant c.loop-f-test.false
