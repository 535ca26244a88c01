use Rattle.std.proofs.Common.{rules}
use Rattle.marks.specs.Start.{bad_mark}
use Rattle.values.specs.Searched.{lowest_found}
use Rattle.marks.proofs.bad_mark.Goals as goal

pub returns : goal.returns
returns c = lowest_found _ _ _ (bad_mark c.args.marks.now) (search rules) (λ k l. absurd (search rules)) c.find.ensures.ran (λ x q k. search rules) (λ x q k. search rules)
