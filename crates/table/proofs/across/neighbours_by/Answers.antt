use Rattle.std.proofs.Common.{arith, refl, ◌*◌}
use Rattle.rules.specs.Laws.Highest.{highest_small}
use Rattle.table.specs.Rows.{table_in, rows_in}
use Rattle.table.specs.Triangles.{list_begins, list_turn, list_refuses, list_ends}
use Rattle.table.specs.Walk.{another}
use Rattle.values.specs.Places.{some_none}
use Rattle.table.proofs.across.neighbours_by.Goals as goal

pub loop-place-init : goal.loop-place-init
loop-place-init c = list_begins _ _

pub returns-then-found-ne2 : goal.returns-then-found-ne2
returns-then-found-ne2 c =
    (list_refuses _ refl c.requires.0.rise c.loop-place.invariant (omega (arith, c.row_count-place-end.ensures, c.loop-place-test.true)) c.like_places-found.ensures.0 c.if-found-ne2.true, record { kept = c.loop-place.invariant.kept; list = λ e. absurd (some_none e) })

pub put-requires : goal.put-requires
put-requires c =
    (rw c.loop-place.invariant.kept (omega (arith, c.requires.2, c.loop-place-test.true)), omega (arith, c.requires.0.few, c.like_places-found.ensures.1, highest_small (4 * rows_in c.args.rows.now) (another (table_in c.args.rows.now) 0 4 c.loop-place.place)))

pub loop-place-preserved : goal.loop-place-preserved
loop-place-preserved c =
    rw c.put.ensures (list_turn _ refl c.requires.0.rise c.loop-place.invariant (omega (arith, c.row_count-place-end.ensures, c.loop-place-test.true)) c.like_places-found.ensures.0 c.requires.2 c.like_places-found.ensures.1 c.if-found-ne2.false)

pub returns : goal.returns
returns c = let (none, list) = list_ends _ refl c.requires.0.rise c.loop-place.invariant (omega (arith, c.row_count-place-end.ensures, c.loop-place-test.false)) in (none, record { kept = c.loop-place.invariant.kept; list = λ _. list })
