-- A triangle by its three ids, outer rows by their first id, and the fourth corner of the row across by sums of ids.
use Rattle.std.specs.Prelude.{◌≡◌, refl, ◌⊎◌, ◌≢◌, Bool, false, not, ◌||◌, ℕ, zero, suc, ◌+◌, ◌*◌, ◌≤◌, ◌<◌, eqb, get_or, ℤ}
use Rattle.std.proofs.Math.Path.{sym, ap}
use Rattle.std.proofs.Common.{◌∙◌, subst, ⊎_elim, not-suc-le-zero, zero-add, zero-lt-suc, arith, lit<, eqb-true, eq-eqb}
use Rattle.std.proofs.Math.Bool.{true}
use mathlib.Core.List.{List, [], ◌∷◌, flatten}
use Rattle.std.proofs.lemmas.Bool.{eqb-false, not-true}
use Rattle.rules.specs.Below.{all, gather, only, pick, tabulate}
use Rattle.rules.specs.Shape.{vertices as vertex_table, facet, triangle_table, edge_table}
use Rattle.rules.specs.Table.{Table, holds, outer, across}
use Rattle.rules.specs.Skin.{triangle}
use Rattle.rules.specs.Points.{Point, below_zero, above_zero}
use Rattle.rules.specs.Outward.{product, side_of, far_id, right_way}
use Rattle.rules.specs.Job.{most_ids}
use Rattle.rules.specs.Laws.Truth.{same_test, and_both, or_reads, eqb_reads}
use Rattle.rules.specs.Laws.Below.{below_suc, all_each}
use Rattle.rules.specs.Reading.Rows.{Rising, Holds, holds_reads}
use Rattle.rules.specs.Reading.Neighbours.{Side}
use Rattle.rules.specs.Reading.Closed.{Paired, across_is, across_other, across_below}
use Rattle.rules.specs.Reading.Outer.{outer_reads}
use Rattle.rules.specs.Reading.Points.{is_fourth}
use Rattle.table.specs.declared.faces.Face.{Face}
use Rattle.table.specs.Rows.{id_in, table_in, rows_in}
use Rattle.table.specs.Ground.{Ground, neighbour_below}
use Rattle.table.specs.Faces.{triangles, face_corners, corner_of, face_of, holds_ids, corner_below, has_face}

-- ---- a triangle by its three ids

pub triangle_ids : (bytes : List ℕ) (r c : ℕ) → c < 4
    → triangle (table_in bytes) r c ≡ id_in bytes r (corner_of c 0) ∷ id_in bytes r (corner_of c 1) ∷ id_in bytes r (corner_of c 2) ∷ []
unfolding triangle facet pick gather only corner_of face_corners triangle_table edge_table vertex_table tabulate flatten
triangle_ids bytes r = below_suc P 3 (below_suc P 2 (below_suc P 1 (below_suc P 0 (λ c l. absurd (not-suc-le-zero l)) refl) refl) refl) refl
  where
    P : ℕ → Type 0
    P c = triangle (table_in bytes) r c ≡ id_in bytes r (corner_of c 0) ∷ id_in bytes r (corner_of c 1) ∷ id_in bytes r (corner_of c 2) ∷ []

pub triangle_face : (bytes : List ℕ) (r c : ℕ) → c < 4 → {f : Face} → f ≡ face_of (table_in bytes) r c → triangle (table_in bytes) r c ≡ f.a ∷ f.b ∷ f.c ∷ []
unfolding face_of
triangle_face bytes r c l e = rw e (triangle_ids bytes r c l)

-- the product at a triangle and a fourth id
unfoldable pub side_at : (ℕ → Point) → Face → ℕ → ℤ
side_at at f d = product at f.a f.b f.c d

pub side_face : (bytes : List ℕ) (at : ℕ → Point) (r c d : ℕ) → c < 4 → {f : Face} → f ≡ face_of (table_in bytes) r c → side_at at f d ≡ side_of at (triangle (table_in bytes) r c) d
unfolding side_of side_at
side_face bytes at r c d l e = rw (triangle_face bytes r c l e)

-- its ids are below V
pub record FaceBelow (f : Face) (ids : ℕ) : Type 0 where
  pub a : f.a < ids
  pub b : f.b < ids
  pub c : f.c < ids

pub face_below : (bytes : List ℕ) {ids : ℕ} → Paired (table_in bytes) ids → (r c : ℕ) → r < rows_in bytes → c < 4 → {f : Face} → f ≡ face_of (table_in bytes) r c → FaceBelow f ids
unfolding face_of
face_below bytes {ids} paired r c l m e = rw e (record { a = at 0 (lit< tt); b = at 1 (lit< tt); c = at 2 (lit< tt) })
  where
    at : (k : ℕ) → k < 3 → id_in bytes r (corner_of c k) < ids
    at k n = paired.below r l (corner_of c k) (corner_below c k (omega arith) n)

-- ---- ids rise, so id 0 stands first

pub outer_asked : (t : Table) (r : ℕ) → Rising t r → 0 < t.corners → outer t r ≡ eqb (t.id r 0) 0
outer_asked t r rising some =
    same_test (outer t r) (eqb (t.id r 0) 0) (λ e. eq-eqb (t.id r 0) 0 (first ((outer_reads t r).0 e)))
    (λ e. (outer_reads t r).1 (0, some, eqb-true (t.id r 0) 0 e))
  where
    first : Holds t r 0 → t.id r 0 ≡ 0
    first (zero, l, e) = e
    first (suc c, l, e) = absurd (omega (arith, rising 0 (suc c) (zero-lt-suc c) l))

-- ---- the fourth corner of the row across

-- a triangle's corners are not the one that is left out
apart_pass : all 4 (λ c. all 3 (λ k. not (eqb (corner_of c k) c))) ≡ true
unfolding all corner_of face_corners triangle_table edge_table vertex_table tabulate gather flatten
apart_pass = refl

corner_apart : (c k : ℕ) → c < 4 → k < 3 → corner_of c k ≢ c
corner_apart c k l m =
    eqb-false (corner_of c k) c (not-true (eqb (corner_of c k) c)
    (all_each 3 (λ k. not (eqb (corner_of c k) c)) (all_each 4 (λ c. all 3 (λ k. not (eqb (corner_of c k) c))) apart_pass c l) k m))

-- and each other corner is one of them
each_pass : all 4 (λ c. all 4 (λ k. eqb k c || (eqb k (corner_of c 0) || (eqb k (corner_of c 1) || eqb k (corner_of c 2))))) ≡ true
unfolding all corner_of face_corners triangle_table edge_table vertex_table tabulate gather flatten
each_pass = refl

pub each_corner : (c k : ℕ) → c < 4 → k < 4 → (k ≡ c) ⊎ ((k ≡ corner_of c 0) ⊎ ((k ≡ corner_of c 1) ⊎ (k ≡ corner_of c 2)))
each_corner c k l m =
    (or_reads (eqb_reads k c) (or_reads (eqb_reads k (corner_of c 0)) (or_reads (eqb_reads k (corner_of c 1)) (eqb_reads k (corner_of c 2))))).0
    (all_each 4 (λ k. eqb k c || (eqb k (corner_of c 0) || (eqb k (corner_of c 1) || eqb k (corner_of c 2))))
    (all_each 4 (λ c. all 4 (λ k. eqb k c || (eqb k (corner_of c 0) || (eqb k (corner_of c 1) || eqb k (corner_of c 2))))) each_pass c l) k m)

-- the four ids of a row, summed
unfoldable pub id_sum : Table → ℕ → ℕ
id_sum t r = t.id r 0 + t.id r 1 + t.id r 2 + t.id r 3

unfoldable pub face_sum : Face → ℕ
face_sum f = f.a + f.b + f.c

pub row_sum : (t : Table) (r c : ℕ) → c < 4 → id_sum t r ≡ face_sum (face_of t r c) + t.id r c
unfolding id_sum face_sum face_of corner_of face_corners triangle_table edge_table vertex_table tabulate gather flatten
row_sum t r =
    below_suc P 3 (below_suc P 2 (below_suc P 1 (below_suc P 0 (λ c l. absurd (not-suc-le-zero l)) (omega arith)) (omega arith)) (omega arith)) refl
  where
    P : ℕ → Type 0
    P c = id_sum t r ≡ face_sum (face_of t r c) + t.id r c

module _ (bytes : List ℕ) {ids : ℕ} (paired : Paired (table_in bytes) ids) (r c : ℕ) (l : r < rows_in bytes) (m : c < 4) where
  abbrev t : Table
  t = table_in bytes

  abbrev s : ℕ
  s = across t r c

  below : s < rows_in bytes
  below = across_below paired r c l m

  held : Side t r c s
  held = let o = across_is paired r c l m in subst (Side t r c) (sym (across_other t r c o)) o.is

  held_ids : holds_ids t (face_of t r (0 + c)) s ≡ true
  unfolding holds_ids face_of
  held_ids = rw (zero-add c) (and_both (and_both (at 0 (lit< tt)) (at 1 (lit< tt))) (at 2 (lit< tt)))
    where
      at : (k : ℕ) → k < 3 → holds t s (t.id r (corner_of c k)) ≡ true
      at k n = (holds_reads t s (t.id r (corner_of c k))).1 (held (corner_of c k) (corner_below c k (omega arith) n) (corner_apart c k m n))

  -- the triangle is also one of the row across, which leaves out a corner e of it
  pub shared_face : (e : ℕ) × (e < 4) × (face_of t r c ≡ face_of t s e)
  shared_face =
      let (e, le, same) = has_face t refl triangles (paired.rising r l) (paired.rising s below) c m held_ids in
      (e, le, ap (face_of t r) (sym (zero-add c)) ∙ same ∙ ap (face_of t s) (zero-add e))

  -- that corner is its fourth
  pub far_corner : far_id t r c ≡ t.id s shared_face.0
  unfolding far_id face_of
  far_corner =
      let (e, le, same) = shared_face in
      let ((k, lk, is), off) = is_fourth t paired l below m held in
      let on : (j : ℕ) → j < 3 → t.id r (corner_of c j) ≡ t.id s (corner_of e j) → k ≡ corner_of e j → ⊥ = (λ j lj q z.
      off (corner_of c j, corner_below c j (omega arith) lj, corner_apart c j m lj, q ∙ ap (t.id s) (sym z) ∙ is)) in
      sym is ∙ ap (t.id s) (⊎_elim (λ (z : k ≡ e). z) (⊎_elim (λ z. absurd (on 0 (lit< tt) (ap (λ (f : Face). f.a) same) z))
      (⊎_elim (λ z. absurd (on 1 (lit< tt) (ap (λ (f : Face). f.b) same) z)) (λ z. absurd (on 2 (lit< tt) (ap (λ (f : Face). f.c) same) z)))) (each_corner e k le lk))

  -- The two rows share three ids, so their sums differ as their fourth ids do.
  pub far_sum : id_sum t s + t.id r c ≡ id_sum t r + far_id t r c
  far_sum =
      let (e, le, same) = shared_face in
      omega (arith, row_sum t r c m, row_sum t s e le, ap face_sum same, far_corner)

  pub far_below : far_id t r c < ids
  far_below = rw far_corner (paired.below s below shared_face.0 shared_face.1)

-- the same, as it is found in the neighbour list
module _ {bytes neighbours : List ℕ} {ids : ℕ} (ground : Ground bytes neighbours ids) (few : ids ≤ most_ids) where
  pub sum_fits : (r : ℕ) → r < rows_in bytes → id_sum (table_in bytes) r ≤ 4 * most_ids
  unfolding id_sum
  sum_fits r l =
      let below = ground.paired.below r l in
      omega (arith, below 0 (lit< tt), below 1 (lit< tt), below 2 (lit< tt), below 3 (lit< tt))

  module _ (r c : ℕ) (l : r < rows_in bytes) (m : c < 4) {s : ℕ} (listed : s ≡ get_or neighbours (4 * r + c) 0) where
    pub across_fits : (s < rows_in bytes) × (id_sum (table_in bytes) s ≤ 4 * most_ids)
    across_fits = let below : s < rows_in bytes = rw listed (neighbour_below ground r c l m) in (below, sum_fits s below)

    pub far_found : {x y : ℕ} → x ≡ id_sum (table_in bytes) s → y ≡ id_in bytes r c
        → (x + y ≡ id_sum (table_in bytes) r + far_id (table_in bytes) r c) × (x + y ≤ 5 * most_ids)
    far_found ex ey = (
      rw (ex, ey, listed, ground.at r c l m) (far_sum bytes ground.paired r c l m),
      omega (arith, across_fits.1, ground.paired.below r l c m),
    )

-- ---- which way the rising ids pass, by the row's own fourth corner or by that of the row across

module _ (bytes : List ℕ) (at : ℕ → Point) (r c : ℕ) (m : c < 4) {f : Face} (ef : f ≡ face_of (table_in bytes) r c) {asked : Bool} (eo : asked ≡ outer (table_in bytes) r)
    {d : ℕ} {v : ℤ} (ev : v ≡ side_at at f d) where
  pub outer_way : asked ≡ true → d ≡ far_id (table_in bytes) r c → above_zero v ≡ right_way (table_in bytes) at r c
  unfolding right_way
  outer_way on ed = rw (← eo, on, ← ed, ev, side_face bytes at r c d m ef)

  pub finite_way : asked ≡ false → d ≡ id_in bytes r c → below_zero v ≡ right_way (table_in bytes) at r c
  unfolding right_way
  finite_way off ed = rw (← eo, off, ← ed, ev, side_face bytes at r c d m ef)
