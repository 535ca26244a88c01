-- Why a proposal is declined, and document 02's number of an answer.
use Rattle.std.specs.Prelude.{ℕ, Result, Ok, Err}
use Rattle.growth.specs.declared.declined.Declined.{Declined}
use Rattle.growth.specs.declared.declined.Declined.TheVariants.{Row, Kind, Outer, Side, Vertices, Opposite, Edge}

abbrev pub number_of : Declined → ℕ
number_of Row = 1
number_of Kind = 2
number_of Outer = 3
number_of Side = 4
number_of Vertices = 5
number_of Opposite = 6
number_of Edge = 7

-- document 02's answer
abbrev pub answer_of : {A : Type 0} → Result A Declined → ℕ
answer_of (Ok _) = 0
answer_of (Err declined) = number_of declined
