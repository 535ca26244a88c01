use Rattle.std.proofs.Common.{refl, arith}
use Rattle.tallies.specs.Area.{area_long, others_add, others_fit, others_remove}
use Rattle.tallies.proofs.others_at.Goals as goal

pub overflow_add-inside : goal.overflow_add-inside
overflow_add-inside c = omega (arith, c.tallies_at-first.ensures, area_long c.requires.0.1, c.requires.1)

pub offset_bounds-work-first : goal.offset_bounds-work-first
offset_bounds-work-first c = omega (arith, c.tallies_at-first.ensures, area_long c.requires.0.1, c.requires.1)

pub bounds-work-first : goal.bounds-work-first
bounds-work-first c = omega (arith, c.tallies_at-first.ensures, area_long c.requires.0.1, c.requires.1)

pub returns-then-adding : goal.returns-then-adding
returns-then-adding c = λ marks a. others_add a c.tallies_at-first.ensures c.requires.1 refl c.if-adding.true

pub overflow_add-result : goal.overflow_add-result
overflow_add-result c = omega (arith, c.tallies_at-first.ensures, area_long c.requires.0.1, c.requires.1)

pub overflow_add-result-2 : goal.overflow_add-result-2
overflow_add-result-2 c = omega (arith, c.tallies_at-first.ensures, area_long c.requires.0.1, c.requires.1)

pub offset_bounds-work-first-2 : goal.offset_bounds-work-first-2
offset_bounds-work-first-2 c = omega (arith, c.tallies_at-first.ensures, area_long c.requires.0.1, c.requires.1)

pub bounds-work-first-2 : goal.bounds-work-first-2
bounds-work-first-2 c = omega (arith, c.tallies_at-first.ensures, area_long c.requires.0.1, c.requires.1)

pub overflow_sub-result : goal.overflow_sub-result
overflow_sub-result c = others_fit c.requires.0.1 c.tallies_at-first.ensures c.requires.1 refl refl

pub returns : goal.returns
returns c = λ marks a. others_remove a c.tallies_at-first.ensures c.requires.1 refl refl c.if-adding.false
