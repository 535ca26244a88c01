use Rattle.std.proofs.Common.{refl, sym, ap, ◌∙◌, arith, Ok}
use Rattle.std.proofs.lemmas.Result.{err_from_is_err_and}
use Rattle.rules.specs.Below.{lowest}
use Rattle.stl.specs.Search.{sound_goes, fault_stops, none_found}
use Rattle.stl.proofs.reader.look_through.Goals as goal

pub loop-facet-init : goal.loop-facet-init
unfolding lowest
loop-facet-init c = refl

pub loop-facet-preserved : goal.loop-facet-preserved
loop-facet-preserved c = sound_goes c.args.file.now c.loop-facet.facet c.loop-facet.invariant (sym c.in_ok-check_facet.was ∙ c.check_facet.ensures)

pub returns-in_err-check_facet : goal.returns-in_err-check_facet
returns-in_err-check_facet c =
    let p = err_from_is_err_and c.from_residual.result c.from_residual.ensures.1 in
    rw (p.1, p.2) (fault_stops c.args.file.now c.loop-facet.facet c.loop-facet.invariant (sym c.in_err-check_facet.was ∙ c.check_facet.ensures) (omega (arith, c.requires.2)))

pub returns : goal.returns
returns c = ap Ok c.requires.2 ∙ none_found c.args.file.now c.loop-facet.facet c.loop-facet.invariant (omega (arith, c.requires.2))
