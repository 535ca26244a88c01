-- Faces that are free of the other side: edges asked of their ids, vertices of the corner tallies.
use Rattle.std.specs.Prelude.{◌≡◌, refl, Bool, true, false, ◌&&◌, cond, [], ◌∷◌, ℕ, ◌<◌, eqb}
use Rattle.std.proofs.Math.Path.{sym, ap}
use Rattle.std.proofs.Common.{◌∙◌}
use Rattle.std.proofs.Math.Bool.{not, and-true}
use Rattle.std.specs.Bool.{beq}
use Rattle.rules.specs.Below.{any}
use Rattle.rules.specs.Table.{Table, holds, holds_face}
use Rattle.rules.specs.Cases.{free}
use Rattle.rules.specs.Work.{tally}
use Rattle.rules.specs.Laws.Below.{any_here, any_same}
use Rattle.rules.specs.Laws.Work.{tally_none}

pub other_side_lem : (inside adding : Bool) → beq inside adding ≡ cond adding inside (not inside)
other_side_lem true true = refl
other_side_lem true false = refl
other_side_lem false true = refl
other_side_lem false false = refl

-- row s is of the other side and holds a and b
unfoldable pub touches : Table → (ℕ → Bool) → ℕ → ℕ → ℕ → Bool
touches t other a b s = other s && (holds t s a && holds t s b)

-- no row of the other side holds a and b, the ids of an edge
unfoldable pub both_free : Table → (ℕ → Bool) → ℕ → ℕ → Bool
both_free t other a b = not (any t.rows (touches t other a b))

-- no row of the other side holds the vertex of row r at a corner
unfoldable pub vertex_free : Table → (ℕ → Bool) → ℕ → ℕ → Bool
vertex_free t other r c = free t other r (c ∷ [])

module _ (t : Table) (other : ℕ → Bool) where
  pub both_edge : (r i j : ℕ) → both_free t other (t.id r i) (t.id r j) ≡ free t other r (i ∷ j ∷ [])
  unfolding both_free touches free holds_face
  both_edge r i j = ap not (any_same t.rows _ _ (λ s _. ap (λ (b : Bool). other s && (holds t s (t.id r i) && b)) (sym (and-true (holds t s (t.id r j))))))

  pub touched : (a b s : ℕ) → s < t.rows → touches t other a b s ≡ true → false ≡ both_free t other a b
  unfolding both_free
  touched a b s l h = sym (ap not (any_here t.rows (touches t other a b) s l h))

-- ---- vertices, by the corner tallies

pub none_free : (t : Table) (other : ℕ → Bool) (r c : ℕ) → eqb (tally t other (t.id r c)) 0 ≡ vertex_free t other r c
unfolding vertex_free free holds_face
none_free t other r c = tally_none t other (t.id r c) ∙ ap not (any_same t.rows _ _ (λ s _. ap (λ (b : Bool). other s && b) (sym (and-true (holds t s (t.id r c))))))
