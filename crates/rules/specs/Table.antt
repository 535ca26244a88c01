-- Rows, and the closed table.
use Rattle.std.specs.Prelude.{ℕ, ◌+◌, ◌-◌, ◌*◌, ◌/◌, ◌%◌, Bool, true, not, ◌&&◌, List, [], ◌∷◌, eqb, ltb, get_or}
use Rattle.std.proofs.Math.Option
use Rattle.rules.specs.Below.{lowest, any, all, all_but, count, pick, tabulate}
use Rattle.rules.specs.Joined.{connected}
use Rattle.rules.specs.Shape.{edge_table, vertices}

-- so many rows of so many corners: `id r c` is the id of row r at corner c
pub record Table : Type 0 where
  pub corners : ℕ
  pub rows : ℕ
  pub id : ℕ → ℕ → ℕ

-- the table of a list of ids, row after row
unfoldable pub table_of : ℕ → ℕ → List ℕ → Table
table_of corners rows ids = record { corners = corners; rows = rows; id = λ r c. get_or ids (corners * r + c) 0 }

-- ---- rows

-- the ids of row r rise strictly
unfoldable pub rising : Table → ℕ → Bool
rising t r = all (t.corners - 1) (λ c. ltb (t.id r c) (t.id r (c + 1)))

-- the ids of row r are below V, here `id_count`
unfoldable pub ids_below : Table → ℕ → ℕ → Bool
ids_below t id_count r = all t.corners (λ c. ltb (t.id r c) id_count)

-- row s stands before row r in the dictionary: at some corner its id is lower, and at each corner before that one the ids are the same
unfoldable pub before : Table → ℕ → ℕ → Bool
before t s r = any t.corners (λ c. all c (λ k. eqb (t.id s k) (t.id r k)) && ltb (t.id s c) (t.id r c))

-- v is an id of row r
unfoldable pub holds : Table → ℕ → ℕ → Bool
holds t r v = any t.corners (λ c. eqb (t.id r c) v)

-- an outer row has id 0, the infinite vertex
unfoldable pub outer : Table → ℕ → Bool
outer t r = holds t r 0

-- ---- neighbours

-- row s holds the triangle of row r that leaves out corner c
unfoldable pub side : Table → ℕ → ℕ → ℕ → Bool
side t r c s = all_but t.corners (λ k. holds t s (t.id r k)) c

-- two rows that hold a triangle are neighbours
unfoldable pub neighbours : Table → ℕ → ℕ → Bool
neighbours t r s = not (eqb r s) && any t.corners (λ c. side t r c s)

-- the row across the triangle of row r that leaves out corner c
unfoldable pub across : Table → ℕ → ℕ → ℕ
across t r c = Option.get_or (lowest t.rows (λ s. not (eqb s r) && side t r c s)) 0

-- the neighbour list: for each row and left-out corner the row across
unfoldable pub neighbour_list : Table → List ℕ
neighbour_list t = tabulate (t.corners * t.rows) (λ k. across t (k / t.corners) (k % t.corners))

-- ---- the three rules, at row r

-- Triangle rule: each triangle of a row is in exactly two rows.
unfoldable pub triangles_shared : Table → ℕ → Bool
triangles_shared t r = all t.corners (λ c. eqb (count t.rows (side t r c)) 2)

-- row s holds the ids that row r has at the corners of a face
unfoldable pub holds_face : Table → ℕ → List ℕ → ℕ → Bool
holds_face t r [] s = true
holds_face t r (c ∷ face) s = holds t s (t.id r c) && holds_face t r face s

-- any two rows that hold the face are joined by a chain of neighbours that all hold it
unfoldable pub face_joined : Table → ℕ → List ℕ → Bool
face_joined t r face = connected (neighbours t) (pick t.rows (holds_face t r face))

unfoldable pub faces_joined : Table → ℕ → List (List ℕ) → Bool
faces_joined t r [] = true
faces_joined t r (face ∷ faces) = face_joined t r face && faces_joined t r faces

-- Edge rule.
unfoldable pub edges_joined : Table → ℕ → Bool
edges_joined t r = faces_joined t r edge_table

-- Vertex rule: the same for a vertex.
unfoldable pub vertices_joined : Table → ℕ → Bool
vertices_joined t r = faces_joined t r (vertices t.corners)
