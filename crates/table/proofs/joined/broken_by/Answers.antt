use Rattle.std.proofs.Common.{refl, ap, not, ◌∙◌}
use Rattle.std.proofs.Math.Option.{some}
use Rattle.rules.specs.Below.{lowest}
use Rattle.rules.specs.Laws.Below.{lowest_none, searched_more, search_stops, search_ends}
use Rattle.table.specs.Ground.{rising_rows}
use Rattle.table.specs.Holders.{unjoined_at, unjoined_row, unjoined_none}
use Rattle.table.specs.Rows.{table_in}
use borrow.Author.Tests.{not-false}
use Rattle.table.specs.Tested.{grounded_of}
use Rattle.table.proofs.joined.broken_by.Goals as goal

pub loop-place-init : goal.loop-place-init
unfolding lowest
loop-place-init c = (refl, c.requires.2)

pub face_joined-requires : goal.face_joined-requires
face_joined-requires c =
    (c.requires.0, c.requires.1, c.loop-place.invariant.1, rw (c.each.ensures, c.row_count.ensures) at c.loop-place-test.true, λ q l. not-false _ (lowest_none _ (unjoined_at (table_in _) _ _) c.loop-place.invariant.0 q l))

pub returns-then-not-face_joined : goal.returns-then-not-face_joined
returns-then-not-face_joined c =
    ap some c.row_of.ensures ∙ unjoined_row _ c.requires.0 (rising_rows (grounded_of c.args.table.tested).1) _ (search_stops _ _ (unjoined_at (table_in _) _ _) c.loop-place.invariant.0 (rw (c.each.ensures, c.row_count.ensures) at c.loop-place-test.true) (rw (← c.face_joined.ensures.0) (ap not c.if-not-face_joined.true)))

pub loop-place-preserved : goal.loop-place-preserved
loop-place-preserved c = (searched_more _ (unjoined_at (table_in _) _ _) c.loop-place.invariant.0 (rw (← c.face_joined.ensures.0) (ap not c.if-not-face_joined.false)), c.face_joined.ensures.1)

pub returns : goal.returns
returns c =
    unjoined_none _ c.requires.0 (rising_rows (grounded_of c.args.table.tested).1) (search_ends _ _ (unjoined_at (table_in _) _ _) c.loop-place.invariant.0 (rw (c.each.ensures, c.row_count.ensures) at c.loop-place-test.false))
