use Rattle.std.proofs.Common.{rules}
use Rattle.values.specs.Searched.{lowest_found}
use Rattle.skin.specs.Between.{between}
use Rattle.growth.specs.Edges.{in_both, shared_there, shared_found}
use Rattle.growth.proofs.closed.Closed.shared_edge.Goals as goal

pub unwrap-requires : goal.unwrap-requires
unwrap-requires c = shared_there _ c.requires.1 _ (lowest_found _ _ 6 (in_both (between _ _ _)) (search rules) (λ k l. absurd (search rules)) c.find.ensures.ran (λ x q k. search rules) (λ x q k. search rules))

pub returns : goal.returns
returns c = shared_found _ c.requires.1 (lowest_found _ _ 6 (in_both (between _ _ _)) (search rules) (λ k l. absurd (search rules)) c.find.ensures.ran (λ x q k. search rules) (λ x q k. search rules)) c.unwrap.ensures
