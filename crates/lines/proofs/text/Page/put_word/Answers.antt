use Rattle.std.proofs.Common.{refl}
use Rattle.lines.specs.Lines.{word_put}
use Rattle.lines.proofs.text.Page.put_word.Goals as goal

pub returns : goal.returns
returns c = record { same = refl; put = word_put _ _ _ c.copy_from_slice.ensures.after c.requires }
