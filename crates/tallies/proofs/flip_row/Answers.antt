use Rattle.std.proofs.Common.{◌∙◌}
use Rattle.tallies.specs.Area.{row_flips, row_flipped, bit_of}
use Rattle.tallies.proofs.flip_row.Goals as goal

pub step_row-requires : goal.step_row-requires
step_row-requires c = (row_flips c.requires.0.1 _ _ c.requires.1 c.requires.2 c.tallies_at.ensures, c.requires.1)

pub returns : goal.returns
returns c = let marked = c.from.ensures ∙ bit_of c.args.adding in (rw marked, λ ids a. rw marked (c.step_row.ensures ∙ row_flipped a _ _ c.requires.1 c.requires.2 c.tallies_at.ensures))
