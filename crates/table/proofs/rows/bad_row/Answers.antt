use Rattle.std.proofs.Common.{rules}
use Rattle.rules.specs.Job.{bad_row}
use Rattle.table.specs.Rows.{table_in}
use Rattle.values.specs.Searched.{lowest_found}
use Rattle.table.proofs.rows.bad_row.Goals as goal

pub returns : goal.returns
returns c =
    lowest_found _ _ _ (bad_row (table_in c.args.rows.now) c.args.ids) (search rules) (λ k l. absurd (search rules)) c.find.ensures.ran (λ x q k. search rules) (λ x q k. search rules)
