use Rattle.std.proofs.Common.{rules, ◌∙◌}
use Rattle.points.specs.Folded.{folded_above, lowest_asked}
use Rattle.rules.specs.Points.{point_in}
use Rattle.table.specs.Rows.{table_in}
use Rattle.values.specs.Searched.{lowest_found}
use Rattle.table.specs.Tested.{ground_of}
use Rattle.points.proofs.placed.Placed.folded_row.Goals as goal

pub returns : goal.returns
returns c =
    let on_ground = ground_of c.args.self.table.tested c.args.self.tested.0 in
    lowest_found _ _ _ (folded_above (table_in c.args.self.table.rows.now) (point_in c.args.self.points.now)) (search rules) (λ k l. absurd (search rules)) c.find.ensures.ran (λ x q k. search rules)
    (λ x q k. search rules)
    ∙ lowest_asked _ on_ground.paired (point_in c.args.self.points.now)
