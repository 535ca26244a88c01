use Rattle.std.proofs.Common.{sym, ◌∙◌, rules, refl}
use Rattle.points.specs.Asked.{any_asked}
use Rattle.points.specs.Folded.{side_above, folded_above, outer_unfolded}
use Rattle.rules.specs.Points.{point_in}
use Rattle.table.specs.Rows.{table_in}
use Rattle.points.proofs.placed.Placed.folded_above.Goals as goal

pub returns-then-is_outer : goal.returns-then-is_outer
returns-then-is_outer c = sym (outer_unfolded _ _ _ (sym c.is_outer.ensures ∙ c.if-is_outer.true))

pub returns : goal.returns
unfolding folded_above
returns c =
    any_asked _ _ 4 (side_above (table_in c.args.self.table.rows.now) (point_in c.args.self.points.now) c.args.row) refl c.any.ensures.ran (λ x q k. search rules) (λ x q k. search rules)
