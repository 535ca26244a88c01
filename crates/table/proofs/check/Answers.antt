use Rattle.std.proofs.Common.{sym, ◌∙◌}
use Rattle.table.specs.Closed.{left_of, row_broken, order_broken, order_fine, zeros_left}
use Rattle.values.specs.Places.{none_of}
use Rattle.table.proofs.check.Goals as goal

pub returns-in-Some : goal.returns-in-Some
unfolding left_of
returns-in-Some c = (row_broken _ _ _ c.bad_row.ensures c.in-Some.is, c.clear.ensures ∙ zeros_left _ _ c.requires.1)

pub returns-in-Some-out_of_order : goal.returns-in-Some-out_of_order
unfolding left_of
returns-in-Some-out_of_order c = (order_broken _ _ _ c.bad_row.ensures (none_of c.in_default.not-Some) _ c.out_of_order.ensures c.in-Some-out_of_order.is, c.clear-in-Some-out_of_order.ensures ∙ zeros_left _ _ c.requires.1)

pub returns : goal.returns
returns c =
    (c.check_shared.ensures.0 ∙ sym (order_fine _ _ _ c.bad_row.ensures (none_of c.in_default.not-Some) _ c.out_of_order.ensures (none_of c.in_default-out_of_order.not-Some)), c.check_shared.ensures.1)
