use Rattle.std.proofs.Common.{◌∙◌, ap, ℕ, set}
use Rattle.growth.specs.Tested.{area_tested}
use Rattle.growth.specs.Answers.{given_is, given_row, one_taken, row_taken, none_taken, row_kept}
use Rattle.table.specs.Rows.{table_in}
use Rattle.growth.proofs.answering.answer_one.Goals as goal

pub invariant_of-growing : goal.invariant_of-growing
invariant_of-growing c = record { tested = area_tested c.requires.0 }

pub returns-then-refused : goal.returns-then-refused
returns-then-refused c =
    let row = c.word_at-row.ensures in let kind = c.word_at-kind.ensures in let given = c.answer_of-number.ensures ∙ c.answer-given.ensures.0 in let t = table_in c.args.rows.now in
    (none_taken t _ _ _ row kind given c.if-refused.true, ap (λ (a : ℕ). set c.args.answers.now c.args.k a) (given_is t _ _ _ row kind given), row_kept t _ _ _ row kind given c.if-refused.true, c.requires.0.area)

pub flip_row-requires : goal.flip_row-requires
flip_row-requires c =
    let given = c.answer_of-number.ensures ∙ c.answer-given.ensures.0 in
    let (below, here) = given_row (table_in c.args.rows.now) _ _ _ c.word_at-row.ensures c.word_at-kind.ensures given c.if-refused.false (rw c.unwrap.ensures at c.answer-given.ensures.1) in
    ((_, c.requires.0), below, here)

pub returns : goal.returns
returns c =
    let row = c.word_at-row.ensures in let kind = c.word_at-kind.ensures in let given = c.answer_of-number.ensures ∙ c.answer-given.ensures.0 in let t = table_in c.args.rows.now in
    (one_taken t _ _ _ row kind given c.if-refused.false, ap (λ (a : ℕ). set c.args.answers.now c.args.k a) (given_is t _ _ _ row kind given), row_taken t _ _ _ row kind given c.if-refused.false (rw c.unwrap.ensures at c.answer-given.ensures.1) c.flip_row.ensures.0, c.flip_row.ensures.1 _ c.requires.0)
