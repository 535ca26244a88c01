-- The five cases: Lhuillier's Theorem 4 and the remark after it.
use Rattle.std.specs.Prelude.{ℕ, Bool, true, not, ◌&&◌, cond, List, [], ◌∷◌, eqb}
use Rattle.rules.specs.Below.{any, all, count, pick}
use Rattle.rules.specs.Table.{Table, holds_face}
use Rattle.rules.specs.Skin.{on_skin}
use Rattle.rules.specs.First.{Test, given, first_match}

-- the other side: for an add the inside rows, for a remove the outside rows, outer rows counted too
unfoldable pub other_side : Bool → (ℕ → Bool) → ℕ → Bool
other_side adding inside s = cond adding (inside s) (not (inside s))

-- no row of the other side holds the face of row r
unfoldable pub free : Table → (ℕ → Bool) → ℕ → List ℕ → Bool
free t other r face = not (any t.rows (λ s. other s && holds_face t r face s))

-- f, the number of the row's triangles on the skin
unfoldable pub triangles_on_skin : Table → (ℕ → Bool) → ℕ → ℕ
triangles_on_skin t inside r = count t.corners (on_skin t inside r)

-- The cases by f. `left_out` are the left-out corners of the row's skin triangles: of one triangle the vertex opposite it, of two the one
-- edge that is in neither (`Laws.Shape.in_neither`).
unfoldable pub passes : Table → (ℕ → Bool) → Bool → ℕ → Bool
passes t inside adding r =
    let other = other_side adding inside in
    let left_out = pick t.corners (on_skin t inside r) in
    let f = triangles_on_skin t inside r in
    cond (eqb f 0) (all t.corners (λ c. free t other r (c ∷ [])))
    (cond (eqb f 1) (free t other r left_out)
    (cond (eqb f 2) (free t other r left_out)
    true))

-- the row has f triangles on the skin, and that case refuses it
unfoldable pub refuses_at : Table → (ℕ → Bool) → Bool → ℕ → ℕ → Bool
refuses_at t inside adding r f = eqb (triangles_on_skin t inside r) f && not (passes t inside adding r)

-- the cases that can refuse, behind the answers 1 to 4
unfoldable pub case_tests : Table → (ℕ → Bool) → Bool → ℕ → List Test
case_tests t inside adding r =
    -- 5: f = 0
    (λ _. given (refuses_at t inside adding r 0))
    -- 6: f = 1
    ∷ (λ _. given (refuses_at t inside adding r 1))
    -- 7: f = 2
    ∷ (λ _. given (refuses_at t inside adding r 2))
    ∷ []

-- the answer by the cases alone, 0 if they pass
abbrev pub case_answer : Table → (ℕ → Bool) → Bool → ℕ → ℕ
case_answer t inside adding r = (first_match 5 (case_tests t inside adding r)).code
