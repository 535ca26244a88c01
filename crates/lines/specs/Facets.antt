-- A list of units as text, nine to a line.
use Rattle.std.specs.Prelude.{ℕ, ◌%◌, cond, List, [], ◌∷◌, ◌++◌, eqb, ℤ, pos, nat_abs, length, get_or}
use Rattle.rules.specs.Below.{gather}
use Rattle.rules.specs.Points.{below_zero}
use Rattle.lines.specs.Listing.{decimal}

-- decimal, with a minus, which is 45, in front where it is below zero
unfoldable pub whole : ℤ → List ℕ
whole u = cond (below_zero u) (45 ∷ []) [] ++ decimal (nat_abs u)

-- behind number k stands a newline, which is 10, if it is the ninth of its line, and else a single space, which is 32
unfoldable pub parting : ℕ → ℕ
parting k = cond (eqb (k % 9) 8) 10 32

unfoldable pub unit_text : List ℤ → ℕ → List ℕ
unit_text units k = whole (get_or units k (pos 0)) ++ (parting k ∷ [])

unfoldable pub facets_text : List ℤ → List ℕ
facets_text units = gather (length units) (unit_text units)
