use Rattle.std.proofs.Common.{rules, refl, ◌∙◌, ◌<◌, zero-le}
use Rattle.marks.specs.Start.{unlike_asked, row_0_alike}
use Rattle.rules.specs.Job.{unlike}
use Rattle.rules.specs.Laws.Below.{lowest_none}
use Rattle.rules.specs.Reading.Outer.{OuterFirst, outer_first}
use Rattle.table.specs.Rows.{table_in}
use Rattle.table.specs.Tested.{ground_of}
use Rattle.values.specs.Searched.{lowest_found}
use Rattle.marks.proofs.unlike_outer.Goals as goal

pub returns : goal.returns
returns c =
    let first : OuterFirst (table_in c.args.marked.table.rows.now) = λ r. outer_first (ground_of c.args.marked.table.tested c.args.marked.tested.0).paired r 0 zero-le in
    lowest_found _ _ _ (unlike (table_in c.args.marked.table.rows.now) c.args.marked.marks.now) (search rules) (λ k l. let m : k < 1 = l in lowest_none 1 _ (row_0_alike _ _ first) k m) c.find.ensures.ran
    (λ x q k. unlike_asked _ _ first x refl ∙ (search rules)) (λ x q k. (search rules, unlike_asked _ _ first x refl ∙ (search rules)))
