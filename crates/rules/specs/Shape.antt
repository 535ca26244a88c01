-- The corners, triangles and edges of a row are fixed by position.
use Rattle.std.specs.Prelude.{ℕ, not, List, [], ◌∷◌, eqb}
use Rattle.rules.specs.Below.{pick, tabulate}

-- the corners of the triangle that leaves out corner c
unfoldable pub facet : ℕ → ℕ → List ℕ
facet corners c = pick corners (λ k. not (eqb k c))

-- ---- the fixed tables of a row of four corners

-- the triangles by left-out corner: what `facet 4` gives (`Laws.Shape`)
unfoldable pub triangle_table : List (List ℕ)
triangle_table = (1 ∷ 2 ∷ 3 ∷ []) ∷ (0 ∷ 2 ∷ 3 ∷ []) ∷ (0 ∷ 1 ∷ 3 ∷ []) ∷ (0 ∷ 1 ∷ 2 ∷ []) ∷ []

unfoldable pub edge_table : List (List ℕ)
edge_table = (0 ∷ 1 ∷ []) ∷ (0 ∷ 2 ∷ []) ∷ (0 ∷ 3 ∷ []) ∷ (1 ∷ 2 ∷ []) ∷ (1 ∷ 3 ∷ []) ∷ (2 ∷ 3 ∷ []) ∷ []

unfoldable pub opposite_table : List (List ℕ)
opposite_table = (2 ∷ 3 ∷ []) ∷ (1 ∷ 3 ∷ []) ∷ (1 ∷ 2 ∷ []) ∷ (0 ∷ 3 ∷ []) ∷ (0 ∷ 2 ∷ []) ∷ (0 ∷ 1 ∷ []) ∷ []

-- ---- faces: an edge is the list of its two corners, and a vertex the list of its one

unfoldable pub vertices : ℕ → List (List ℕ)
vertices corners = tabulate corners (λ c. c ∷ [])
