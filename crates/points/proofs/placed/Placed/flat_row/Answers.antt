use Rattle.std.proofs.Common.{rules}
use Rattle.rules.specs.Outward.{flat}
use Rattle.rules.specs.Points.{point_in}
use Rattle.table.specs.Rows.{table_in}
use Rattle.values.specs.Searched.{lowest_found}
use Rattle.points.proofs.placed.Placed.flat_row.Goals as goal

pub returns : goal.returns
returns c =
    lowest_found _ _ _ (flat (table_in c.args.self.table.rows.now) (point_in c.args.self.points.now)) (search rules) (λ k l. absurd (search rules)) c.find.ensures.ran (λ x q k. search rules)
    (λ x q k. search rules)
