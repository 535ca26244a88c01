use Rattle.std.proofs.Common.{refl, sym, ◌∙◌}
use Rattle.std.proofs.lemmas.Result.{err_from_is_err_and}
use Rattle.rules.specs.Below.{lowest}
use Rattle.stl.specs.Faults.{facet_fault, corner_goes, corner_stops, corners_end}
use Rattle.stl.proofs.reader.check_facet.Goals as goal

pub returns-then-not-is_blank : goal.returns-then-not-is_blank
unfolding facet_fault
returns-then-not-is_blank c = rw (sym c.is_blank.ensures ∙ c.if-not-is_blank.true) refl

pub loop-corner-init : goal.loop-corner-init
unfolding lowest
loop-corner-init c = refl

pub loop-corner-preserved : goal.loop-corner-preserved
loop-corner-preserved c = corner_goes c.args.file.now c.args.facet c.loop-corner.corner c.loop-corner.invariant (sym c.in_ok-check_corner.was ∙ c.check_corner.ensures)

pub returns-in_err-check_corner : goal.returns-in_err-check_corner
unfolding facet_fault
returns-in_err-check_corner c =
    let p = err_from_is_err_and c.from_residual.result c.from_residual.ensures.1 in
    rw (sym c.is_blank.ensures ∙ c.if-not-is_blank.false, p.1, p.2)
    (corner_stops c.args.file.now c.args.facet c.loop-corner.corner c.loop-corner.invariant (sym c.in_err-check_corner.was ∙ c.check_corner.ensures) c.loop-corner-test.true)

pub returns : goal.returns
unfolding facet_fault
returns c = rw (sym c.is_blank.ensures ∙ c.if-not-is_blank.false) (corners_end c.args.file.now c.args.facet c.loop-corner.corner c.loop-corner.invariant c.loop-corner-test.false)
