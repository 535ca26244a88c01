use Rattle.std.proofs.Common.{sym, ◌∙◌, rules}
use Rattle.table.specs.Rows.{rows_in, id_word}
use Rattle.table.proofs.view.RowView.id.Goals as goal

pub overflow_mul-row : goal.overflow_mul-row
unfolding rows_in
overflow_mul-row c = search rules

pub overflow_add-row : goal.overflow_add-row
unfolding rows_in
overflow_add-row c = search rules

pub word_at-requires : goal.word_at-requires
unfolding rows_in
word_at-requires c = search rules

pub returns : goal.returns
returns c = c.word_at.ensures ∙ sym (id_word c.args.self.bytes.now c.args.row c.args.corner (search rules) (search rules))
