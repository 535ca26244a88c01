use Rattle.std.proofs.Common.{◌≡◌, ◌∙◌, ℕ, refl, rules}
use Rattle.std.specs.Int.{to_le_bytes, w32}
use Rattle.rules.specs.Words.{bytes_of}
use Rattle.words.specs.Stores.{stored}
use Rattle.words.proofs.put_word.Goals as goal

-- the bytes of a u32, as `rules` has them
four : (n : ℕ) → to_le_bytes w32 n ≡ bytes_of 4 n
four n = search rules

pub returns : goal.returns
returns c = stored c.args.bytes.now _ (bytes_of 4 c.args.word) c.args.place 4 (c.copy_from_slice.ensures.after ∙ c.to_le_bytes.ensures ∙ four c.args.word) refl c.requires
