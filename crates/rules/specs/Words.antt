-- Numbers in bytes.
use Rattle.std.specs.Prelude.{ℕ, zero, suc, ◌+◌, ◌*◌, ◌/◌, ◌%◌, List, [], ◌∷◌, ◌++◌, get_or}

-- the number that so many bytes stand for, from a place on, low byte first
unfoldable pub word : ℕ → List ℕ → ℕ → ℕ
word zero bytes place = 0
word (suc width) bytes place = get_or bytes place 0 + 256 * word width bytes (place + 1)

-- so many bytes of a number, low byte first
abbrev pub bytes_of : ℕ → ℕ → List ℕ
bytes_of zero n = []
bytes_of (suc width) n = n % 256 ∷ bytes_of width (n / 256)

-- numbers as words of four bytes
abbrev pub words : List ℕ → List ℕ
words [] = []
words (n ∷ ns) = bytes_of 4 n ++ words ns
