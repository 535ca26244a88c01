use Rattle.std.proofs.Common.{rules}
use Rattle.values.specs.Searched.{lowest_found}
use Rattle.stl.specs.Writing.{stray_in}
use Rattle.stl.proofs.writer.first_stray.Goals as goal

pub returns : goal.returns
returns c = lowest_found _ _ _ (stray_in c.args.units.now) (search rules) (λ k l. absurd (search rules)) c.find.ensures.ran (λ x q k. search rules) (λ x q k. search rules)
