-- The closed table: the triangle, edge and vertex rules.
use Rattle.std.specs.Prelude.{◌≡◌, refl, ◌↔◌, ◌≢◌, true, ◌&&◌, length, get_or}
use Rattle.std.proofs.Common.{sym, ◌∙◌, lt_trans, mul-le-mul_left, mul-suc, add-zero, mod-eq_of_lt, arith}
use Rattle.std.proofs.Math.Path.{ap, subst}
use Rattle.std.proofs.Math.Logic.{⊎_elim}
use Rattle.std.proofs.Math.Bool.{Bool, not}
use Rattle.std.proofs.Math.Option
use Rattle.std.proofs.Math.Option.{Option}
use mathlib.Core.List.Memᴰ
use mathlib.Core.List.{List, [], ◌∷◌}
use Prim.Native.Nat.{ℕ, ◌+◌, ◌-◌, ◌*◌, ◌/◌, ◌%◌, ◌<◌}
use Rattle.std.proofs.Math.Nat.{lt_irrefl, mul-add-div, div-eq_of_lt, mul-add-mod_self_left}
use Rattle.std.proofs.Math.Dec.{eqb}
use borrow.Author.Tests.{eqb-true, eq-eqb, eqb-false, ne_eqb, not-true}
use Rattle.rules.specs.Below.{count, tabulate}
use Rattle.rules.specs.Shape.{edge_table, vertices}
use Rattle.rules.specs.Table.{Table, holds, side, neighbours, across, neighbour_list, triangles_shared, holds_face, face_joined, faces_joined, edges_joined, vertices_joined}
use Rattle.rules.specs.Laws.Truth.{is_false, lower_or_higher, and_first, and_second, and_both}
use Rattle.rules.specs.Laws.Below.{is_lowest, all_each, each_all}
use Rattle.rules.specs.Laws.Count.{ExactlyTwo, TheOther, two_map, count_two, two_count, the_other}
use Rattle.rules.specs.Laws.Lists.{Among, in_gather, gather_in, tabulate_length, tabulate_at}
use Rattle.rules.specs.Laws.Shape.{table_edge, edge_in_table}
use Rattle.rules.specs.Laws.Joined.{Chain, chain_map, picked_chain, chain_picked}
use Rattle.rules.specs.Reading.Rows.{Rising, IdsBelow, Before, Holds, holds_reads}
use Rattle.rules.specs.Reading.Neighbours.{Side, side_reads, side_self, Neighbours, neighbours_read, neighbours_back}

module _ (t : Table) where
  -- ---- triangle rule

  -- each triangle of row r is in exactly two rows
  abbrev pub TrianglesShared : ℕ → Type 0
  TrianglesShared r = (c : ℕ) → c < t.corners → ExactlyTwo t.rows (Side t r c)

  pub triangles_read : (r : ℕ) → (triangles_shared t r ≡ true) ↔ TrianglesShared r
  unfolding triangles_shared
  triangles_read r = (
    λ e c l.
        two_map (λ s. (side_reads t r c s).0) (λ s. (side_reads t r c s).1)
        (count_two t.rows (side t r c) (eqb-true (count t.rows (side t r c)) 2 (all_each t.corners (λ c. eqb (count t.rows (side t r c)) 2) e c l))),
    λ two. each_all t.corners (λ c. eqb (count t.rows (side t r c)) 2) (λ c l.
        eq-eqb (count t.rows (side t r c)) 2 (two_count t.rows (side t r c) (two_map (λ s. (side_reads t r c s).1) (λ s. (side_reads t r c s).0) (two c l)))),
  )

  -- ---- edge rule and vertex rule

  -- any two rows with the property are joined by a chain of neighbours that all have it
  abbrev pub Joined : (ℕ → Type 0) → Type 0
  Joined P = (x y : ℕ) → (x < t.rows) × P x → (y < t.rows) × P y → Chain (λ z. (z < t.rows) × P z) (Neighbours t) x y

  joined_map : {P Q : ℕ → Type 0} → ((z : ℕ) → P z → Q z) → ((z : ℕ) → Q z → P z) → Joined P → Joined Q
  joined_map forth back joined x y (lx, px) (ly, py) =
      chain_map (λ z (l, p). (l, forth z p)) (λ a b _ _ n. n) (joined x y (lx, back x px) (ly, back y py))

  -- edge rule at row r
  abbrev pub EdgesJoined : ℕ → Type 0
  EdgesJoined r = (i j : ℕ) → i < j → j < 4 → Joined (λ z. Holds t z (t.id r i) × Holds t z (t.id r j))

  -- vertex rule at row r
  abbrev pub VerticesJoined : ℕ → Type 0
  VerticesJoined r = (c : ℕ) → c < t.corners → Joined (λ z. Holds t z (t.id r c))

  -- row s holds the ids that row r has at the corners of a face
  abbrev pub HoldsFace : ℕ → List ℕ → ℕ → Type 0
  HoldsFace r face s = (c : ℕ) → Among c face → Holds t s (t.id r c)

  pub holds_face_reads : (r : ℕ) (face : List ℕ) (s : ℕ) → (holds_face t r face s ≡ true) ↔ HoldsFace r face s
  unfolding holds_face
  holds_face_reads r [] s = (λ _ c m. absurd (Memᴰ.not-nil m), λ _. refl)
  holds_face_reads r (k ∷ face) s =
      let (forth, back) = holds_face_reads r face s in (
        λ e c m.
            ⊎_elim (λ (q : c ≡ k). rw q ((holds_reads t s (t.id r k)).0 (and_first (holds t s (t.id r k)) (holds_face t r face s) e)))
            (λ i. forth (and_second (holds t s (t.id r k)) (holds_face t r face s) e) c i) (Memᴰ.cases_cons m),
        λ on. and_both ((holds_reads t s (t.id r k)).1 (on k (Memᴰ.head refl))) (back (λ c m. on c (Memᴰ.tail m))),
      )

  -- where each row's ids rise, neighbours are mutual, so a chain from the first row reaches any other
  module _ (up : (r : ℕ) → r < t.rows → Rising t r) where
    face_reads : (r : ℕ) (face : List ℕ) → (face_joined t r face ≡ true) ↔ Joined (HoldsFace r face)
    unfolding face_joined
    face_reads r face = (
      λ e x y (lx, px) (ly, py).
          chain_map (λ z (l, p). (l, (holds_face_reads r face z).0 p)) (λ a b _ _ n. (neighbours_read t a b).0 n)
          (picked_chain (neighbours t) t.rows (holds_face t r face) (λ a b (la, _) (lb, _) n.
          (neighbours_read t b a).1 (neighbours_back t a b (up a la) (up b lb) ((neighbours_read t a b).0 n)))
          e x y (lx, (holds_face_reads r face x).1 px) (ly, (holds_face_reads r face y).1 py)),
      λ joined.
          chain_picked (neighbours t) t.rows (holds_face t r face) (λ x y (lx, px) (ly, py).
          chain_map (λ z (l, p). (l, (holds_face_reads r face z).1 p)) (λ a b _ _ n. (neighbours_read t a b).1 n)
          (joined x y (lx, (holds_face_reads r face x).0 px) (ly, (holds_face_reads r face y).0 py))),
    )

    faces_read : (r : ℕ) (faces : List (List ℕ)) → (faces_joined t r faces ≡ true) ↔ ((face : List ℕ) → Among face faces → Joined (HoldsFace r face))
    unfolding faces_joined
    faces_read r [] = (λ _ face m. absurd (Memᴰ.not-nil m), λ _. refl)
    faces_read r (face ∷ faces) =
        let (forth, back) = faces_read r faces in (
          λ e other m.
              ⊎_elim (λ (q : other ≡ face). subst (λ (f : List ℕ). Joined (HoldsFace r f)) (sym q) ((face_reads r face).0 (and_first (face_joined t r face) (faces_joined t r faces) e)))
              (λ i. forth (and_second (face_joined t r face) (faces_joined t r faces) e) other i) (Memᴰ.cases_cons m),
          λ each. and_both ((face_reads r face).1 (each face (Memᴰ.head refl))) (back (λ f m. each f (Memᴰ.tail m))),
        )

    pub edges_read : (r : ℕ) → (edges_joined t r ≡ true) ↔ EdgesJoined r
    unfolding edges_joined
    edges_read r = (
      λ e i j l m. joined_map (λ z h. (h i (Memᴰ.head refl), h j (Memᴰ.tail (Memᴰ.head refl)))) (pair i j)
          ((faces_read r edge_table).0 e (i ∷ j ∷ []) (edge_in_table i j l m)),
      λ joined. (faces_read r edge_table).1 (λ face m.
          let (i, j, l, n, e) = table_edge face m in
          subst (λ (f : List ℕ). Joined (HoldsFace r f)) (sym e)
          (joined_map (pair i j) (λ z h. (h i (Memᴰ.head refl), h j (Memᴰ.tail (Memᴰ.head refl)))) (joined i j l n))),
    )
      where
        pair : (i j z : ℕ) → Holds t z (t.id r i) × Holds t z (t.id r j) → HoldsFace r (i ∷ j ∷ []) z
        pair i j z (p, q) c m =
            ⊎_elim (λ (e : c ≡ i). rw e p) (λ n. let e : c ≡ j = Memᴰ.eq_of_singleton n in rw e q) (Memᴰ.cases_cons m)

    pub vertices_read : (r : ℕ) → (vertices_joined t r ≡ true) ↔ VerticesJoined r
    unfolding vertices_joined vertices tabulate
    vertices_read r = (
      λ e c l. joined_map (λ z h. h c (Memᴰ.head refl)) (λ z p k m. let e : k ≡ c = Memᴰ.eq_of_singleton m in rw e p)
          ((faces_read r (vertices t.corners)).0 e (c ∷ []) (in_gather t.corners (λ k. (k ∷ []) ∷ []) (c ∷ []) c l (Memᴰ.head refl))),
      λ joined. (faces_read r (vertices t.corners)).1 (λ face m.
          let (c, l, i) = gather_in t.corners (λ k. (k ∷ []) ∷ []) face m in
          subst (λ (f : List ℕ). Joined (HoldsFace r f)) (sym (Memᴰ.eq_of_singleton i))
          (joined_map (λ z p k n. let e : k ≡ c = Memᴰ.eq_of_singleton n in rw e p) (λ z h. h c (Memᴰ.head refl)) (joined c l))),
    )

  -- ---- the row across

  -- the other of the two rows that hold a triangle of row r
  pub across_other : (r c : ℕ) (o : TheOther t.rows (Side t r c) r) → across t r c ≡ o.other
  unfolding across
  across_other r c o = ap (λ (x : Option ℕ). Option.get_or x 0) (is_lowest t.rows other o.other (record {
    below = o.below;
    passes = and_both (ap not (ne_eqb o.other r o.differs)) ((side_reads t r c o.other).1 o.is);
    first = λ j l. is_false (other j) (λ q.
        let same = o.only j (lt_trans l o.below) ((side_reads t r c j).0 (and_second (not (eqb j r)) (side t r c j) q))
        (eqb-false j r (not-true (eqb j r) (and_first (not (eqb j r)) (side t r c j) q)))
        in
        lt_irrefl j (subst (λ (m : ℕ). j < m) (sym same) l));
  }))
    where
      other : ℕ → Bool
      other s = not (eqb s r) && side t r c s

-- ---- the neighbour list

pub list_length : (t : Table) → length (neighbour_list t) ≡ t.corners * t.rows
unfolding neighbour_list
list_length t = tabulate_length (t.corners * t.rows) (λ k. across t (k / t.corners) (k % t.corners))

pub list_at : (t : Table) (r c : ℕ) → r < t.rows → c < t.corners → get_or (neighbour_list t) (t.corners * r + c) 0 ≡ across t r c
unfolding neighbour_list
list_at t r c l m =
    tabulate_at (t.corners * t.rows) (λ k. across t (k / t.corners) (k % t.corners)) 0 (t.corners * r + c) (omega (arith, mul-le-mul_left t.corners l, mul-suc t.corners r))
    ∙ rw (mul-add-div {m = t.corners} (omega arith) r c, div-eq_of_lt m, add-zero r, mul-add-mod_self_left t.corners r c, mod-eq_of_lt m)

-- ---- rules 5 to 7 together, and 5 to 9

-- rows that rise, are in order, and hold each triangle in pairs: what the neighbour list needs to mean something
pub record Paired (t : Table) (id_count : ℕ) : Type 0 where
  pub rising : (r : ℕ) → r < t.rows → Rising t r
  pub below : (r : ℕ) → r < t.rows → IdsBelow t id_count r
  pub ordered : (r : ℕ) → 0 < r → r < t.rows → Before t (r - 1) r
  pub two : (r : ℕ) → r < t.rows → TrianglesShared t r

pub record Closed (t : Table) (id_count : ℕ) : Type 0 where
  pub paired : Paired t id_count
  pub edges : (r : ℕ) → r < t.rows → EdgesJoined t r
  pub vertices : (r : ℕ) → r < t.rows → VerticesJoined t r

module _ {t : Table} {id_count : ℕ} (paired : Paired t id_count) (r c : ℕ) (l : r < t.rows) (m : c < t.corners) where
  pub across_is : TheOther t.rows (Side t r c) r
  across_is = the_other (paired.two r l c m) r l (side_self t r c)

  pub across_below : across t r c < t.rows
  across_below = rw (across_other t r c across_is) across_is.below

module _ {t : Table} {id_count : ℕ} (closed : Closed t id_count) where
  -- any two rows that hold a vertex are joined by a chain of neighbours that all hold it
  pub vertex_rule : (v : ℕ) → Joined t (λ z. Holds t z v)
  vertex_rule v x y (l, (c, m, e)) = subst (λ (u : ℕ). Joined t (λ z. Holds t z u)) e (closed.vertices x l c m) x y (l, (c, m, e))

  -- the same for an edge, in a table of four corners
  pub edge_rule : t.corners ≡ 4 → (a b : ℕ) → a ≢ b → Joined t (λ z. Holds t z a × Holds t z b)
  edge_rule four a b ne x y (l, ((i, li, p), (j, lj, q))) =
      ⊎_elim (λ (i<j : i < j). rising_edge a b i j li lj i<j p q x y (l, ((i, li, p), (j, lj, q))))
      (λ (j<i : j < i). joined_map t (λ z (h, k). (k, h)) (λ z (h, k). (k, h)) (rising_edge b a j i lj li j<i q p) x y (l, ((i, li, p), (j, lj, q))))
      (lower_or_higher i j (λ (e : i ≡ j). ne (sym p ∙ ap (t.id x) e ∙ q)))
    where
      rising_edge : (a b i j : ℕ) → i < t.corners → j < t.corners → i < j → t.id x i ≡ a → t.id x j ≡ b → Joined t (λ z. Holds t z a × Holds t z b)
      rising_edge a b i j li lj i<j p q =
          joined_map t (λ z (h, k). (subst (Holds t z) p h, subst (Holds t z) q k)) (λ z (h, k). (subst (Holds t z) (sym p) h, subst (Holds t z) (sym q) k))
          (closed.edges x l i j i<j (rw four at lj))
