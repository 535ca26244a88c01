use Rattle.std.proofs.Common.{rules}
use Rattle.rules.specs.Proposals.{inside_in}
use Rattle.skin.proofs.is_inside.Goals as goal

pub returns : goal.returns
unfolding inside_in
returns c = search rules
