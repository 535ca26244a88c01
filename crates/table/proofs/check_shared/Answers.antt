use Rattle.std.proofs.Common.{replicate, ℕ, sym, ap, ◌∙◌}
use Rattle.table.specs.Closed.{left_of, triangle_broken, triangle_fine, the_ground, zeros_left}
use Rattle.table.specs.Rows.{ordered_rise}
use Rattle.table.specs.Tested.{tested_of}
use Rattle.values.specs.Places.{none_of}
use Rattle.table.proofs.check_shared.Goals as goal

pub neighbours-requires : goal.neighbours-requires
neighbours-requires c = let given = c.requires in (ordered_rise given.0.1, given.1)

pub check_joined-requires : goal.check_joined-requires
check_joined-requires c =
    let given = c.requires in
    (tested_of (the_ground _ _ c.neighbours.ensures.0 (none_of c.in_default.not-Some) given.0.1 given.1 c.neighbours.ensures.1)).0

pub returns-in-Some : goal.returns-in-Some
unfolding left_of
returns-in-Some c = (
  triangle_broken _ _ c.neighbours.ensures.0 c.in-Some.is,
  c.clear.ensures ∙ ap (λ (n : ℕ). replicate n 0) c.neighbours.ensures.1.kept ∙ zeros_left _ _ c.requires.1,
)

pub returns : goal.returns
returns c = (
  c.check_joined.ensures.0 ∙ sym (triangle_fine _ _ c.neighbours.ensures.0 (none_of c.in_default.not-Some)),
  c.check_joined.ensures.1 ∙ ap (left_of _) (c.neighbours.ensures.1.list (none_of c.in_default.not-Some)),
)
