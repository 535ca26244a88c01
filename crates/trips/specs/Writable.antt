-- The lists that the facet writer takes.
use Rattle.std.specs.Prelude.{◌≡◌, List, ℕ, ◌%◌, ◌≤◌, ◌<◌, ℤ, pos, length, get_or}
use Rattle.rules.specs.Stl.{most_facets, file_length, facets_of}
use Rattle.rules.specs.Reading.Points.{InRange}

-- whole facets, at most 4,096, each number from -1023 to 1023, and room for the file
pub record Writable (units : List ℤ) (room : ℕ) : Type 0 where
  pub whole : length units % 9 ≡ 0
  pub few : facets_of units ≤ most_facets
  pub on : (k : ℕ) → k < length units → InRange (get_or units k (pos 0))
  pub roomy : file_length (facets_of units) ≤ room
