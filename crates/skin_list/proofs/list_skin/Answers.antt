use Rattle.std.proofs.Common.{◌<◌, ◌≤◌, ◌+◌, ◌*◌, length, refl, rules, arith}
use Rattle.rules.specs.Reading.Outward.{three_each}
use Rattle.table.specs.Rows.{rows_in}
use Rattle.skin_list.specs.Listing.{list_begins, list_ends, next_room, found, passed, order_turned}
use Rattle.skin_list.specs.Orders.{rows_of, paired_of}
use Rattle.skin_list.proofs.list_skin.Goals.{then-is_listed, else-is_listed}
use Rattle.skin_list.proofs.list_skin.Goals as goal

pub loop-place-init : goal.loop-place-init
loop-place-init c = list_begins _ _ _ _

pub put-requires : goal.put-requires
put-requires c =
    let here : c.loop-place.place < 4 * rows_in (rows_of c.args.order) = rw (c.row_count-end.ensures, c.table-table.ensures) at c.loop-place-test.true in (
      rw c.table-table.ensures (omega (arith, here)),
      search rules,
      next_room (paired_of c.args.order).1 _ _ (three_each _ _ _ refl) c.loop-place.invariant here c.requires.1 (rw c.table-table.ensures at c.is_listed.ensures)
          c.if-is_listed.true,
    )

pub overflow_add-n : goal.overflow_add-n
overflow_add-n c =
    let here : c.loop-place.place < 4 * rows_in (rows_of c.args.order) = rw (c.row_count-end.ensures, c.table-table.ensures) at c.loop-place-test.true in
    let room : 3 * c.loop-place.n + 3 ≤ length c.loop-place.triangles =
    next_room (paired_of c.args.order).1 _ _ (three_each _ _ _ refl) c.loop-place.invariant here c.requires.1 (rw c.table-table.ensures at c.is_listed.ensures) c.if-is_listed.true in
    search rules

pub loop-place-preserved : goal.loop-place-preserved
loop-place-preserved c =
    let here : c.loop-place.place < 4 * rows_in (rows_of c.args.order) = rw (c.row_count-end.ensures, c.table-table.ensures) at c.loop-place-test.true in
    let on_skin = rw c.table-table.ensures at c.is_listed.ensures in
    elim c.if-is_listed.branch [
      | then-is_listed w ↦ rw (w.triangles-is, w.n-is, w.put.ensures, c.table-table.ensures, order_turned c.args.order _ _ w.is_turned-turned.ensures)
          (found (paired_of c.args.order).1 _ _ (three_each _ _ _ refl) c.loop-place.invariant here c.requires.1 on_skin w.if-is_listed.true)
      | else-is_listed w ↦ rw (w.triangles-is, w.n-is) (passed (paired_of c.args.order).1 _ _ (three_each _ _ _ refl) c.loop-place.invariant here c.requires.1 on_skin w.if-is_listed.false)
    ]

pub returns : goal.returns
returns c = list_ends _ _ _ c.loop-place.invariant (omega (arith, rw (c.row_count-end.ensures, c.table-table.ensures) at c.loop-place-test.false))
