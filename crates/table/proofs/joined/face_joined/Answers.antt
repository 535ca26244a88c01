use Rattle.std.proofs.Common.{arith, sym, ◌∙◌}
use Rattle.rules.specs.Laws.Places.{row_below}
use Rattle.table.specs.Faces.{kind_small}
use Rattle.table.specs.Ground.{rising_rows}
use Rattle.table.specs.Holders.{joined_before, own_both, joined_found}
use Rattle.table.specs.Tested.{grounded_of}
use Rattle.table.proofs.joined.face_joined.Goals as goal

pub returns-then-not-first_like : goal.returns-then-not-first_like
returns-then-not-first_like c =
    (joined_before _ c.requires.0 _ c.requires.4 c.first_like.ensures c.if-not-first_like.true, λ y l. omega (arith, c.requires.2 y l))

pub reached_from-reached-requires : goal.reached_from-reached-requires
reached_from-reached-requires c =
    (rw (c.row_of-start.ensures) (row_below (kind_small c.requires.0.0).0 _ _ c.requires.3), rw (c.row_of-start.ensures) (own_both _ c.requires.0 _ c.face_at-face.ensures), λ y l. omega (arith, c.requires.2 y l))

pub returns : goal.returns
returns c =
    (joined_found _ c.requires.0 (rising_rows (grounded_of c.args.table.tested).1) _ c.requires.3 c.face_at-face.ensures _ c.reached_from-reached.ensures.0 c.like_onward.ensures, λ y l. c.reached_from-reached.ensures.1 y l)

pub like_onward-requires : goal.like_onward-requires
like_onward-requires c = ((grounded_of c.args.table.tested).1.few, c.requires.3, c.requires.1, sym c.if-not-first_like.false ∙ c.first_like.ensures)
