-- What the reader answers to a number.
use Rattle.std.specs.Prelude.{ℕ, ℤ, cond, Result, Ok, Err, from_bits}
use Rattle.std.specs.Float.{binary32}
use Rattle.rules.specs.Stl.{bits_off, units_of}
use Rattle.grid.specs.declared.OffGrid.{OffGrid}

-- a number off the grid as it stood, by its bits
abbrev pub stood : ℕ → ℕ → OffGrid
stood bits facet = record { number = from_bits binary32 bits; bits = bits; facet = facet }

-- its units, or itself, its bits and its facet
unfoldable pub read : ℕ → ℕ → Result ℤ OffGrid
read bits facet = cond (bits_off bits) (Err (stood bits facet)) (Ok (units_of bits))
