-- What is said of an STL file: its facets, or why it is refused.
use Rattle.std.specs.Prelude.{ℕ, ◌*◌, ◌≡◌, Result, Ok, Err, Bool, true, false, not, cond, List, [], ◌∷◌, eqb, Float, ℤ, pos, length, replicate}
use Rattle.std.proofs.Math.Option.{Option, some, none}
use Rattle.rules.specs.Job.{written}
use Rattle.rules.specs.Stl.{most_facets, units_in, Read, read_file}
use Rattle.lines.specs.Listing.{line, word_refused}
use Rattle.lines.specs.Facets.{facets_text}

-- units that no file finds short, filled with zeros
unfoldable pub zeros : List ℤ
zeros = replicate (9 * most_facets) (pos 0)

-- code, place, and the bits of a number off the grid
unfoldable pub bits_told : Option (Float × ℕ) → List ℕ
bits_told none = []
bits_told (some (x, bits)) = bits ∷ []

unfoldable pub refusal : Read → List ℕ
refusal r = r.verdict.code ∷ r.verdict.place ∷ bits_told r.off

unfoldable pub file_refused : List ℕ → Bool
file_refused bytes = not (eqb (read_file bytes zeros).verdict.code 0)

-- nine units a line; or `refused` and those numbers
unfoldable pub file_said : List ℕ → List ℕ
file_said bytes = cond (file_refused bytes) (line word_refused (refusal (read_file bytes zeros))) (facets_text (units_in bytes))

-- ---- what is said: the size of a text that is printed, or of the line of a refusal

abbrev pub size_in : Result ℕ ℕ → ℕ
size_in (Ok size) = size
size_in (Err size) = size

abbrev pub refuses : Result ℕ ℕ → Bool
refuses (Ok size) = false
refuses (Err size) = true

-- a text, and whether it is the line of a refusal: it stands at the front of a buffer, and its size and that are told
pub record Says (text : List ℕ) (refuses : Bool) (before : List ℕ) (size : ℕ) (no : Bool) (after : List ℕ) : Type 0 where
  pub size_is : size ≡ length text
  pub no_is : no ≡ refuses
  pub after_is : after ≡ written text before
