use Rattle.std.proofs.Common.{sym, ap, ◌∙◌, arith, lt-ltb, le-ltb}
use Rattle.rules.specs.Stl.{facets_of}
use Rattle.stl.specs.Writing.{writing, strayed, few_facets}
use Rattle.values.specs.Places.{place_of}
use Rattle.stl.proofs.writer.judge.Goals as goal

pub returns-then-is_ill_counted : goal.returns-then-is_ill_counted
unfolding writing
returns-then-is_ill_counted c = rw (sym c.is_ill_counted.ensures ∙ c.if-is_ill_counted.true)

pub overflow_mul-units : goal.overflow_mul-units
overflow_mul-units c = record { fits = omega (arith, few_facets c.args.units.now (sym c.is_ill_counted.ensures ∙ c.if-is_ill_counted.false)) }

pub overflow_add-units : goal.overflow_add-units
overflow_add-units c = record { fits = omega (arith, few_facets c.args.units.now (sym c.is_ill_counted.ensures ∙ c.if-is_ill_counted.false)) }

pub returns-in-Some : goal.returns-in-Some
unfolding writing strayed
returns-in-Some c = rw (sym c.is_ill_counted.ensures ∙ c.if-is_ill_counted.false, sym c.first_stray.ensures ∙ ap place_of c.in-Some.is)

pub returns-then-room-units : goal.returns-then-room-units
unfolding writing facets_of strayed
returns-then-room-units c = rw (sym c.is_ill_counted.ensures ∙ c.if-is_ill_counted.false, sym c.first_stray.ensures ∙ ap place_of c.in_default.is, lt-ltb _ _ c.if-room-units.true)

pub returns : goal.returns
unfolding writing facets_of strayed
returns c = rw (sym c.is_ill_counted.ensures ∙ c.if-is_ill_counted.false, sym c.first_stray.ensures ∙ ap place_of c.in_default.is, le-ltb _ _ c.if-room-units.false)
