use Rattle.std.proofs.Common.{arith}
use Rattle.rules.specs.Laws.Words.{word_four}
use Rattle.words.proofs.word_at.Goals as goal

pub returns : goal.returns
returns c = rw word_four (omega (arith, c.from_le_bytes.ensures))
