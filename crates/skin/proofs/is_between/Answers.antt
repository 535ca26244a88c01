use Rattle.std.proofs.Common.{◌∙◌}
use Rattle.skin.specs.Between.{between, unequal_xor}
use Rattle.skin.proofs.is_between.Goals as goal

pub returns : goal.returns
unfolding between
returns c =
    unequal_xor c.is_inside-here.result c.is_inside-there.result ∙ rw (c.is_inside-here.ensures, c.is_inside-there.ensures, c.across_at.ensures)
