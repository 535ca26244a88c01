-- The faces of a row: four triangles by left-out corner, six edges and four vertices, each as three corners. An edge and a vertex repeat
-- their last corner. So the three rules are asked of faces of one form.
use Rattle.std.specs.Prelude.{◌≡◌, refl, ◌⊎◌, false, not, ◌&&◌, ◌||◌, eqb, get_or}
use Rattle.std.proofs.Common.{sym, ap, ◌∙◌, inl, inr, arith, lit<, lit≤, eqb-true, eq-eqb, ltb-true, lt-ltb, ltb-false}
use Rattle.std.proofs.Math.Logic.{⊎_elim}
use Rattle.std.proofs.Math.Bool.{Bool, true, and_assoc}
use Rattle.std.specs.Bool.{beq}
use mathlib.Core.List.{List, [], ◌∷◌, ◌++◌, map, flatten}
use Prim.Native.Nat.{ℕ, ◌+◌, ◌*◌, ◌%◌, ◌≤◌, ◌<◌}
use Rattle.std.proofs.Math.Dec.{ltb}
use Rattle.std.proofs.lemmas.Bool.{not-true}
use Rattle.rules.specs.Below.{any, all, gather, tabulate}
use Rattle.rules.specs.Shape.{triangle_table, edge_table, vertices as vertex_table}
use Rattle.rules.specs.Table.{Table, holds}
use Rattle.rules.specs.Laws.Truth.{true_or_false, not_both, same_test, and_first, and_second, and_both, or_either}
use Rattle.rules.specs.Laws.Below.{any_some, all_each}
use Rattle.rules.specs.Reading.Rows.{Rising, one_corner, Holds, holds_reads}
use Rattle.table.specs.declared.faces.Face.{Face}
use Rattle.table.specs.declared.faces.FaceKind.{FaceKind}
use Rattle.table.specs.declared.faces.FaceKind.TheVariants.{Triangles, Edges, Vertices}

-- ---- the fixed table

-- a face by three corners
abbrev three : List ℕ → List ℕ
three [] = []
three (a ∷ []) = a ∷ a ∷ a ∷ []
three (a ∷ b ∷ []) = a ∷ b ∷ b ∷ []
three (a ∷ b ∷ c ∷ rest) = a ∷ b ∷ c ∷ []

-- `rules`' triangles, edges and vertices
unfoldable pub face_corners : List ℕ
face_corners = flatten (map three (triangle_table ++ (edge_table ++ vertex_table 4)))

-- corner k of a face, 0 to 2
unfoldable pub corner_of : ℕ → ℕ → ℕ
corner_of face k = get_or face_corners (3 * face + k) 0

-- the three kinds: the triangles are the 4 faces from 0 on, the edges the 6 from 4 on, the vertices the 4 from 10 on
abbrev pub Kind : ℕ → ℕ → Type 0
Kind base m = ((base ≡ 0) × (m ≡ 4)) ⊎ (((base ≡ 4) × (m ≡ 6)) ⊎ ((base ≡ 10) × (m ≡ 4)))

-- where each kind begins, and how many of it a row has
abbrev pub triangles_at : ℕ
triangles_at = 0

abbrev pub triangles_each : ℕ
triangles_each = 4

abbrev pub edges_at : ℕ
edges_at = 4

abbrev pub edges_each : ℕ
edges_each = 6

abbrev pub vertices_at : ℕ
vertices_at = 10

abbrev pub vertices_each : ℕ
vertices_each = 4

abbrev pub triangles : Kind triangles_at triangles_each
triangles = inl (refl, refl)

abbrev pub edges : Kind edges_at edges_each
edges = inr (inl (refl, refl))

abbrev pub vertices : Kind vertices_at vertices_each
vertices = inr (inr (refl, refl))

-- where the faces of a kind begin, and how many of it a row has
abbrev pub first_of : FaceKind → ℕ
first_of Triangles = triangles_at
first_of Edges = edges_at
first_of Vertices = vertices_at

abbrev pub each_of : FaceKind → ℕ
each_of Triangles = triangles_each
each_of Edges = edges_each
each_of Vertices = vertices_each

pub kind_of : (k : FaceKind) → Kind (first_of k) (each_of k)
kind_of Triangles = triangles
kind_of Edges = edges
kind_of Vertices = vertices

-- ---- ids of a face

unfoldable pub face_of : Table → ℕ → ℕ → Face
face_of t r face = record { a = t.id r (corner_of face 0); b = t.id r (corner_of face 1); c = t.id r (corner_of face 2) }

unfoldable pub same_ids : Face → Face → Bool
same_ids f g = eqb f.a g.a && eqb f.b g.b && eqb f.c g.c

-- row s holds the ids of a face
unfoldable pub holds_ids : Table → Face → ℕ → Bool
holds_ids t f s = holds t s f.a && holds t s f.b && holds t s f.c

-- the key by which faces are threaded into chains
unfoldable pub key_of : Face → ℕ
key_of f = (f.a % 8192 + 89 * (f.b % 8192) + 7919 * (f.c % 8192)) % 8192

pub key_below : (f : Face) → key_of f < 8192
unfolding key_of
key_below f = omega arith

pub same_ids_lem : (f g : Face) → same_ids f g ≡ true → f ≡ g
unfolding same_ids
same_ids_lem f g e =
    let two = and_first (eqb f.a g.a && eqb f.b g.b) (eqb f.c g.c) e in
    let ea = eqb-true f.a g.a (and_first (eqb f.a g.a) (eqb f.b g.b) two) in
    let eb = eqb-true f.b g.b (and_second (eqb f.a g.a) (eqb f.b g.b) two) in
    let ec = eqb-true f.c g.c (and_second (eqb f.a g.a && eqb f.b g.b) (eqb f.c g.c) e) in
    λ i. record { a = ea i; b = eb i; c = ec i }

-- `==` of two faces
pub equal_ids : (f g : Face) {b : Bool} → b ≡ (eqb f.a g.a && (eqb f.b g.b && eqb f.c g.c)) → b ≡ same_ids f g
unfolding same_ids
equal_ids f g e = e ∙ sym (and_assoc (eqb f.a g.a) (eqb f.b g.b) (eqb f.c g.c))

pub ids_same : (f g : Face) → f ≡ g → same_ids f g ≡ true
unfolding same_ids
ids_same f g e =
    and_both (and_both (eq-eqb f.a g.a (ap (λ (x : Face). x.a) e)) (eq-eqb f.b g.b (ap (λ (x : Face). x.b) e))) (eq-eqb f.c g.c (ap (λ (x : Face). x.c) e))

-- ---- rules of the fixed table, each one test that antt computes

kinds : (ℕ → ℕ → Bool) → Bool
kinds test = test 0 4 && test 4 6 && test 10 4

by_kind : (test : ℕ → ℕ → Bool) → kinds test ≡ true → {base m : ℕ} → Kind base m → test base m ≡ true
unfolding kinds
by_kind test e (inl (b, n)) = rw (b, n) (and_first (test 0 4) (test 4 6) (and_first (test 0 4 && test 4 6) (test 10 4) e))
by_kind test e (inr (inl (b, n))) = rw (b, n) (and_second (test 0 4) (test 4 6) (and_first (test 0 4 && test 4 6) (test 10 4) e))
by_kind test e (inr (inr (b, n))) = rw (b, n) (and_second (test 0 4 && test 4 6) (test 10 4) e)

pub kind_small : {base m : ℕ} → Kind base m → (0 < m) × (m ≤ 6) × (base + m ≤ 14)
kind_small (inl (b, n)) = rw (b, n) (lit< tt, lit≤ tt, lit≤ tt)
kind_small (inr (inl (b, n))) = rw (b, n) (lit< tt, lit≤ tt, lit≤ tt)
kind_small (inr (inr (b, n))) = rw (b, n) (lit< tt, lit≤ tt, lit≤ tt)

corners_pass : all 14 (λ face. all 3 (λ k. ltb (corner_of face k) 4)) ≡ true
unfolding all corner_of face_corners triangle_table edge_table vertex_table tabulate gather map flatten
corners_pass = refl

pub corner_below : (face k : ℕ) → face < 14 → k < 3 → corner_of face k < 4
corner_below face k l m =
    ltb-true (corner_of face k) 4 (all_each 3 (λ k. ltb (corner_of face k) 4) (all_each 14 (λ face. all 3 (λ k. ltb (corner_of face k) 4)) corners_pass face l) k m)

pub face_is : (t : Table) (r face : ℕ) {i j k : ℕ} {f : Face} → i ≡ corner_of face 0 → j ≡ corner_of face 1 → k ≡ corner_of face 2
    → f.a ≡ t.id r i → f.b ≡ t.id r j → f.c ≡ t.id r k → f ≡ face_of t r face
unfolding face_of
face_is t r face ei ej ek ea eb ec = λ x. record { a = (ea ∙ ap (t.id r) ei) x; b = (eb ∙ ap (t.id r) ej) x; c = (ec ∙ ap (t.id r) ek) x }

-- an edge and a vertex repeat their last corner
repeats_pass : all 14 (λ face. ltb face 4 || eqb (corner_of face 2) (corner_of face 1)) ≡ true
unfolding all corner_of face_corners triangle_table edge_table vertex_table tabulate gather map flatten
repeats_pass = refl

pub repeats : (face : ℕ) → 4 ≤ face → face < 14 → corner_of face 2 ≡ corner_of face 1
repeats face l m =
    ⊎_elim (λ t. absurd (omega (arith, ltb-true face 4 t))) (eqb-true (corner_of face 2) (corner_of face 1))
    (or_either (ltb face 4) (eqb (corner_of face 2) (corner_of face 1)) (all_each 14 (λ face. ltb face 4 || eqb (corner_of face 2) (corner_of face 1)) repeats_pass face m))

-- a vertex has its corner three times
vertices_pass : all 4 (λ c. all 3 (λ k. eqb c (corner_of (10 + c) k))) ≡ true
unfolding all corner_of face_corners triangle_table edge_table vertex_table tabulate gather map flatten
vertices_pass = refl

pub vertex_is : (t : Table) (r c : ℕ) → c < 4 → {v : ℕ} → v ≡ t.id r c → record { a = v; b = v; c = v } ≡ face_of t r (10 + c)
vertex_is t r c l e = face_is t r (10 + c) (its 0 (lit< tt)) (its 1 (lit< tt)) (its 2 (lit< tt)) e e e
  where
    its : (k : ℕ) → k < 3 → c ≡ corner_of (10 + c) k
    its k m =
        eqb-true c (corner_of (10 + c) k) (all_each 3 (λ k. eqb c (corner_of (10 + c) k)) (all_each 4 (λ c. all 3 (λ k. eqb c (corner_of (10 + c) k))) vertices_pass c l) k m)

-- the face with the corners i, j and k
is_face : ℕ → ℕ → ℕ → ℕ → Bool
is_face i j k face = eqb (corner_of face 0) i && eqb (corner_of face 1) j && eqb (corner_of face 2) k

-- i and j stand to each other as x and y do
same_order : ℕ → ℕ → ℕ → ℕ → Bool
same_order i j x y = beq (ltb i j) (ltb x y) && beq (ltb j i) (ltb y x)

-- corners that stand to each other as those of a face do are a face of its kind
alike_test : ℕ → ℕ → ℕ → ℕ → ℕ → ℕ → Bool
alike_test base m d i j k =
    not (same_order (corner_of (base + d) 0) (corner_of (base + d) 1) i j && same_order (corner_of (base + d) 1) (corner_of (base + d) 2) j k)
    || any m (λ e. is_face i j k (base + e))

alike_tests : ℕ → ℕ → Bool
alike_tests base m = all m (λ d. all 4 (λ i. all 4 (λ j. all 4 (alike_test base m d i j))))

alike_pass : kinds alike_tests ≡ true
unfolding kinds all any alike_tests alike_test same_order is_face corner_of face_corners triangle_table edge_table vertex_table tabulate gather map flatten
alike_pass = refl

-- no two faces of a kind have the same corners
apart_test : ℕ → ℕ → ℕ → Bool
apart_test base d e = eqb d e || not (is_face (corner_of (base + d) 0) (corner_of (base + d) 1) (corner_of (base + d) 2) (base + e))

apart_tests : ℕ → ℕ → Bool
apart_tests base m = all m (λ d. all m (apart_test base d))

apart_pass : kinds apart_tests ≡ true
unfolding kinds all apart_tests apart_test is_face corner_of face_corners triangle_table edge_table vertex_table tabulate gather map flatten
apart_pass = refl

-- ---- what the tests say

is_face_lem : (i j k face : ℕ) → is_face i j k face ≡ true → (corner_of face 0 ≡ i) × (corner_of face 1 ≡ j) × (corner_of face 2 ≡ k)
unfolding is_face
is_face_lem i j k face e =
    let two = and_first (eqb (corner_of face 0) i && eqb (corner_of face 1) j) (eqb (corner_of face 2) k) e in (
      eqb-true (corner_of face 0) i (and_first (eqb (corner_of face 0) i) (eqb (corner_of face 1) j) two),
      eqb-true (corner_of face 1) j (and_second (eqb (corner_of face 0) i) (eqb (corner_of face 1) j) two),
      eqb-true (corner_of face 2) k (and_second (eqb (corner_of face 0) i && eqb (corner_of face 1) j) (eqb (corner_of face 2) k) e),
    )

module _ {base m : ℕ} (kind : Kind base m) where
  alike : (d i j k : ℕ) → d < m → i < 4 → j < 4 → k < 4 → same_order (corner_of (base + d) 0) (corner_of (base + d) 1) i j ≡ true
      → same_order (corner_of (base + d) 1) (corner_of (base + d) 2) j k ≡ true → (e : ℕ) × (e < m) × (is_face i j k (base + e) ≡ true)
  unfolding alike_tests alike_test
  alike d i j k l li lj lk first second =
      ⊎_elim (λ off. absurd (not_both (and_both first second) (not-true ordered off))) (any_some m (λ e. is_face i j k (base + e))) (or_either (not ordered) (any m (λ e. is_face i j k (base + e))) passed)
    where
      ordered : Bool
      ordered = same_order (corner_of (base + d) 0) (corner_of (base + d) 1) i j && same_order (corner_of (base + d) 1) (corner_of (base + d) 2) j k

      passed : alike_test base m d i j k ≡ true
      passed =
          all_each 4 (alike_test base m d i j) (all_each 4 (λ j. all 4 (alike_test base m d i j)) (all_each 4 (λ i. all 4 (λ j. all 4 (alike_test base m d i j)))
          (all_each m (λ d. all 4 (λ i. all 4 (λ j. all 4 (alike_test base m d i j)))) (by_kind alike_tests alike_pass kind) d l) i li) j lj) k lk

  apart : (d e : ℕ) → d < m → e < m → corner_of (base + e) 0 ≡ corner_of (base + d) 0 → corner_of (base + e) 1 ≡ corner_of (base + d) 1
      → corner_of (base + e) 2 ≡ corner_of (base + d) 2 → d ≡ e
  unfolding apart_tests apart_test is_face
  apart d e ld le p q r =
      ⊎_elim (eqb-true d e) (λ off. absurd (not_both same (not-true is off))) (or_either (eqb d e) (not is) (all_each m (apart_test base d) (all_each m (λ d. all m (apart_test base d)) (by_kind apart_tests apart_pass kind) d ld) e le))
    where
      is : Bool
      is = is_face (corner_of (base + d) 0) (corner_of (base + d) 1) (corner_of (base + d) 2) (base + e)

      same : is ≡ true
      same =
          and_both (and_both (eq-eqb (corner_of (base + e) 0) (corner_of (base + d) 0) p) (eq-eqb (corner_of (base + e) 1) (corner_of (base + d) 1) q))
          (eq-eqb (corner_of (base + e) 2) (corner_of (base + d) 2) r)

-- ---- the faces of rising rows

same_beq : {a b : Bool} → a ≡ b → beq a b ≡ true
same_beq {a} {b} e = rw e (self b)
  where
    self : (b : Bool) → beq b b ≡ true
    self true = refl
    self false = refl

same_face_lem : {f g : Face} → f.a ≡ g.a → f.b ≡ g.b → f.c ≡ g.c → f ≡ g
same_face_lem ea eb ec = λ i. record { a = ea i; b = eb i; c = ec i }

module _ (t : Table) (four : t.corners ≡ 4) where
  -- in a rising row the ids stand to each other as the corners do
  order : {r : ℕ} → Rising t r → (i j : ℕ) → i < 4 → j < 4 → ltb i j ≡ ltb (t.id r i) (t.id r j)
  order {r} up i j li lj =
      same_test (ltb i j) (ltb (t.id r i) (t.id r j))
      (λ e. lt-ltb (t.id r i) (t.id r j) (up i j (ltb-true i j e) (rw four lj)))
      (λ e. ⊎_elim (λ h. h) (λ f. absurd (not_above (ltb-true (t.id r i) (t.id r j) e) (ltb-false i j f))) (true_or_false (ltb i j)))
    where
      not_above : t.id r i < t.id r j → j ≤ i → ⊥
      not_above l m =
          ⊎_elim (λ h. omega (arith, up j i (ltb-true j i h) (rw four li)))
          (λ f. let same : j ≡ i = omega (arith, ltb-false j i f) in omega (arith, ap (t.id r) same)) (true_or_false (ltb j i))

  same_order_lem : {r s : ℕ} → Rising t r → Rising t s → (i j x y : ℕ) → i < 4 → j < 4 → x < 4 → y < 4
      → t.id s x ≡ t.id r i → t.id s y ≡ t.id r j → same_order i j x y ≡ true
  unfolding same_order
  same_order_lem {r} {s} up up' i j x y li lj lx ly e f =
      and_both (same_beq (same i j x y li lj lx ly e f)) (same_beq (same j i y x lj li ly lx f e))
    where
      same : (i j x y : ℕ) → i < 4 → j < 4 → x < 4 → y < 4 → t.id s x ≡ t.id r i → t.id s y ≡ t.id r j → ltb i j ≡ ltb x y
      same i j x y li lj lx ly e f = order up i j li lj ∙ rw (← e, ← f) (sym (order up' x y lx ly))

  -- a row holds the ids of its faces
  pub own_face : (r face : ℕ) → face < 14 → holds_ids t (face_of t r face) r ≡ true
  unfolding holds_ids face_of
  own_face r face l = and_both (and_both (holds_own 0 (lit< tt)) (holds_own 1 (lit< tt))) (holds_own 2 (lit< tt))
    where
      holds_own : (k : ℕ) → k < 3 → holds t r (t.id r (corner_of face k)) ≡ true
      holds_own k n = (holds_reads t r (t.id r (corner_of face k))).1 (corner_of face k, rw four (corner_below face k l n), refl)

  module _ {base m : ℕ} (kind : Kind base m) where
    -- a row that holds the ids of a face has a face of the kind with these ids
    pub has_face : {r s : ℕ} → Rising t r → Rising t s → (d : ℕ) → d < m → holds_ids t (face_of t r (base + d)) s ≡ true
        → (e : ℕ) × (e < m) × (face_of t r (base + d) ≡ face_of t s (base + e))
    unfolding holds_ids face_of
    has_face {r} {s} up up' d l h =
        let two = and_first (holds t s (ids 0) && holds t s (ids 1)) (holds t s (ids 2)) h in
        found ((holds_reads t s (ids 0)).0 (and_first (holds t s (ids 0)) (holds t s (ids 1)) two))
        ((holds_reads t s (ids 1)).0 (and_second (holds t s (ids 0)) (holds t s (ids 1)) two))
        ((holds_reads t s (ids 2)).0 (and_second (holds t s (ids 0) && holds t s (ids 1)) (holds t s (ids 2)) h))
      where
        ids : ℕ → ℕ
        ids k = t.id r (corner_of (base + d) k)

        below : (k : ℕ) → k < 3 → corner_of (base + d) k < 4
        below k m = corner_below (base + d) k (omega (arith, (kind_small kind).2)) m

        found : Holds t s (ids 0) → Holds t s (ids 1) → Holds t s (ids 2) → (e : ℕ) × (e < m) × (face_of t r (base + d) ≡ face_of t s (base + e))
        found (x, lx, ex) (y, ly, ey) (z, lz, ez) =
            let x<4 : x < 4 = rw four at lx in
            let y<4 : y < 4 = rw four at ly in
            let z<4 : z < 4 = rw four at lz in
            let (e, le, is) = alike kind d x y z l x<4 y<4 z<4
            (same_order_lem up up' (corner_of (base + d) 0) (corner_of (base + d) 1) x y (below 0 (lit< tt)) (below 1 (lit< tt)) x<4 y<4 ex ey)
            (same_order_lem up up' (corner_of (base + d) 1) (corner_of (base + d) 2) y z (below 1 (lit< tt)) (below 2 (lit< tt)) y<4 z<4 ey ez) in
            let (ei, ej, ek) = is_face_lem x y z (base + e) is in
            (e, le, same_face_lem (sym ex ∙ ap (t.id s) (sym ei)) (sym ey ∙ ap (t.id s) (sym ej)) (sym ez ∙ ap (t.id s) (sym ek)))

    -- and no second one
    pub one_face : {s : ℕ} → Rising t s → (d e : ℕ) → d < m → e < m → face_of t s (base + d) ≡ face_of t s (base + e) → d ≡ e
    unfolding face_of
    one_face {s} up d e ld le same =
        apart kind d e ld le (corner 0 (lit< tt) (ap (λ (f : Face). f.a) same)) (corner 1 (lit< tt) (ap (λ (f : Face). f.b) same)) (corner 2 (lit< tt) (ap (λ (f : Face). f.c) same))
      where
        below : (x k : ℕ) → x < m → k < 3 → corner_of (base + x) k < t.corners
        below x k l n = rw four (corner_below (base + x) k (omega (arith, (kind_small kind).2)) n)

        corner : (k : ℕ) → k < 3 → t.id s (corner_of (base + d) k) ≡ t.id s (corner_of (base + e) k) → corner_of (base + e) k ≡ corner_of (base + d) k
        corner k l q = sym (one_corner t up (corner_of (base + d) k) (corner_of (base + e) k) (below d k ld l) (below e k le l) q)
