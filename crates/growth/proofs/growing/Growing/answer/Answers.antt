use Rattle.std.proofs.Common.{◌≡◌, arith, ap, not, rules, Err}
use Rattle.growth.specs.Answers.{no_such_row, no_such_kind, outer_row, there_already, by_cases}
use Rattle.table.specs.Rows.{table_in}
use Rattle.growth.proofs.growing.Growing.answer.Goals as goal

pub returns-then-row-row_count : goal.returns-then-row-row_count
returns-then-row-row_count c = (no_such_row (table_in _) _ _ _ (omega (arith, c.row_count.ensures, c.if-row-row_count.true)), tt)

pub returns-in_err-adding : goal.returns-in_err-adding
returns-in_err-adding c =
    let (kind, unknown) = c.in_err-adding.ensures in
    let declined : c.from_residual.result ≡ Err c.in_err-adding.field-0.0 = search rules in
    rw (declined, kind) (no_such_kind (table_in _) _ _ _ (omega (arith, c.row_count.ensures, c.if-row-row_count.false)) (ap not unknown), tt)

pub returns-then-holds : goal.returns-then-holds
returns-then-holds c = (outer_row (table_in _) _ _ _ (omega (arith, c.row_count.ensures, c.if-row-row_count.false)) (ap not c.in_ok-adding.ensures.0) c.holds.ensures c.if-holds.true, tt)

pub returns-then-on_other_side : goal.returns-then-on_other_side
returns-then-on_other_side c = (there_already (table_in _) _ _ _ (omega (arith, c.row_count.ensures, c.if-row-row_count.false)) (ap not c.in_ok-adding.ensures.0) c.holds.ensures c.if-holds.false c.in_ok-adding.ensures.1 c.on_other_side.ensures c.if-on_other_side.true, tt)

pub returns-in_err-local_test : goal.returns-in_err-local_test
returns-in_err-local_test c =
    let declined : c.from_residual-in_err-local_test.result ≡ Err c.in_err-local_test.field-0.0 = search rules in
    rw declined (by_cases (table_in _) _ _ _ (omega (arith, c.row_count.ensures, c.if-row-row_count.false)) (ap not c.in_ok-adding.ensures.0) c.holds.ensures c.if-holds.false c.in_ok-adding.ensures.1 c.on_other_side.ensures c.if-on_other_side.false c.in_err-local_test.ensures, tt)

pub returns : goal.returns
returns c = (by_cases (table_in _) _ _ _ (omega (arith, c.row_count.ensures, c.if-row-row_count.false)) (ap not c.in_ok-adding.ensures.0) c.holds.ensures c.if-holds.false c.in_ok-adding.ensures.1 c.on_other_side.ensures c.if-on_other_side.false c.in_ok-local_test.ensures, c.in_ok-adding.ensures.1)
