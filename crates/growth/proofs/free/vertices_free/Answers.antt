use Rattle.std.proofs.Common.{rules}
use Rattle.growth.specs.Asked.{all_asked}
use Rattle.growth.proofs.free.vertices_free.Goals as goal

pub returns : goal.returns
returns c = λ marks a. all_asked _ _ 4 _ (search rules) c.all.ensures.ran (λ x q k. search rules) (λ x q k. search rules)
