-- The far edges of a vertex, by places: place p is the triangle of row p / 4 that leaves out corner p % 4. Each far edge is met at one place,
-- in the inside row that holds its triangle.
use Rattle.std.specs.Prelude.{◌≡◌, refl, ◌⊎◌, ◌≢◌, Bool, not, ◌&&◌, ◌||◌, cond, ℕ, ◌+◌, ◌*◌, ◌/◌, ◌%◌, ◌≤◌, ◌<◌, eqb, ltb, length}
use Rattle.std.proofs.Common.{sym, ap, ◌∙◌, inl, inr, ⊎_elim, arith, lit<, eqb-true, eq-eqb, ne_eqb, ltb-true}
use Rattle.std.proofs.Math.Logic.{Ne-symm}
use Rattle.std.proofs.Math.Bool.{true}
use mathlib.Core.List.{List, flatten}
use Rattle.std.proofs.Math.Nat.{mod-lt, div-add-mod}
use Rattle.std.proofs.lemmas.Bool.{eqb-false, not-true}
use Rattle.rules.specs.Below.{any, all, count, gather, tabulate}
use Rattle.rules.specs.Shape.{triangle_table, edge_table, vertices as vertex_table}
use Rattle.rules.specs.Table.{Table}
use Rattle.rules.specs.Skin.{on_skin, different, holds_three, far_edge}
use Rattle.rules.specs.Laws.Truth.{true_or_false, same_test, and_first, and_second, and_both, or_either, or_first, or_second}
use Rattle.rules.specs.Laws.Below.{any_here, any_some, all_each}
use Rattle.rules.specs.Laws.Count.{ExactlyOne, count_one}
use Rattle.rules.specs.Laws.Places.{row_of, within_row, row_below, place_below}
use Rattle.rules.specs.Laws.Shape.{fourth_corner}
use Rattle.rules.specs.Reading.Rows.{Rising, one_corner, Holds}
use Rattle.rules.specs.Reading.Closed.{Closed}
use Rattle.rules.specs.Reading.Skin.{Different, different_reads, TriangleIds, three_reads, triangle_of, skin_far}
use Rattle.table.specs.declared.faces.Face.{Face}
use Rattle.table.specs.Rows.{table_in, rows_in}
use Rattle.table.specs.Faces.{face_corners, corner_of, face_of}
use Rattle.table.specs.Ground.{Ground}
use Rattle.rules.specs.Job.{most_ids}

-- ---- the ids of a triangle

unfoldable pub in_face : Face → ℕ → Bool
in_face f u = eqb f.a u || eqb f.b u || eqb f.c u

-- the two ids of a triangle beside v
unfoldable pub first_end : Face → ℕ → ℕ
first_end f v = cond (eqb f.a v) f.b f.a

unfoldable pub second_end : Face → ℕ → ℕ
second_end f v = cond (eqb f.c v) f.b f.c

unfoldable pub InFace : Face → ℕ → Type 0
InFace f u = (f.a ≡ u) ⊎ ((f.b ≡ u) ⊎ (f.c ≡ u))

pub in_face_lem : (f : Face) (u : ℕ) → in_face f u ≡ true → InFace f u
unfolding in_face InFace
in_face_lem f u e =
    ⊎_elim (λ two. ⊎_elim (λ x. inl (eqb-true f.a u x)) (λ x. inr (inl (eqb-true f.b u x))) (or_either (eqb f.a u) (eqb f.b u) two))
    (λ x. inr (inr (eqb-true f.c u x))) (or_either (eqb f.a u || eqb f.b u) (eqb f.c u) e)

pub face_in : (f : Face) (u : ℕ) → InFace f u → in_face f u ≡ true
unfolding in_face InFace
face_in f u (inl e) = or_first (eqb f.c u) (or_first (eqb f.b u) (eq-eqb f.a u e))
face_in f u (inr (inl e)) = or_first (eqb f.c u) (or_second (eqb f.a u) (eq-eqb f.b u e))
face_in f u (inr (inr e)) = or_second (eqb f.a u || eqb f.b u) (eq-eqb f.c u e)

pub first_in : (f : Face) (v : ℕ) → InFace f (first_end f v)
unfolding first_end InFace
first_in f v = ⊎_elim (λ on. rw on (inr (inl refl))) (λ off. rw off (inl refl)) (true_or_false (eqb f.a v))

pub second_in : (f : Face) (v : ℕ) → InFace f (second_end f v)
unfolding second_end InFace
second_in f v = ⊎_elim (λ on. rw on (inr (inl refl))) (λ off. rw off (inr (inr refl))) (true_or_false (eqb f.c v))

-- the three ids of a triangle that holds v are v and the two ends
pub record TwoEnds (f : Face) (v x y : ℕ) : Type 0 where
  pub ends_differ : Different v x y
  pub only : (u : ℕ) → InFace f u → (u ≡ v) ⊎ ((u ≡ x) ⊎ (u ≡ y))

pub split : (f : Face) (v : ℕ) → f.a < f.b → f.b < f.c → InFace f v → TwoEnds f v (first_end f v) (second_end f v)
unfolding InFace first_end second_end
split f v ab bc (inl e) =
    rw (eq-eqb f.a v e, ne_eqb f.c v (λ (x : f.c ≡ v). omega arith)) (record {
      ends_differ = (λ (x : v ≡ f.b). omega arith, λ (x : v ≡ f.c). omega arith, λ (x : f.b ≡ f.c). omega arith);
      only = λ u i. ⊎_elim (λ x. inl (sym x ∙ e)) (⊎_elim (λ x. inr (inl (sym x))) (λ x. inr (inr (sym x)))) i;
    })
split f v ab bc (inr (inl e)) =
    rw (ne_eqb f.a v (λ (x : f.a ≡ v). omega arith), ne_eqb f.c v (λ (x : f.c ≡ v). omega arith)) (record {
      ends_differ = (λ (x : v ≡ f.a). omega arith, λ (x : v ≡ f.c). omega arith, λ (x : f.a ≡ f.c). omega arith);
      only = λ u i. ⊎_elim (λ x. inr (inl (sym x))) (⊎_elim (λ x. inl (sym x ∙ e)) (λ x. inr (inr (sym x)))) i;
    })
split f v ab bc (inr (inr e)) =
    rw (ne_eqb f.a v (λ (x : f.a ≡ v). omega arith), eq-eqb f.c v e) (record {
      ends_differ = (λ (x : v ≡ f.a). omega arith, λ (x : v ≡ f.b). omega arith, λ (x : f.a ≡ f.b). omega arith);
      only = λ u i. ⊎_elim (λ x. inr (inl (sym x))) (⊎_elim (λ x. inr (inr (sym x))) (λ x. inl (sym x ∙ e))) i;
    })

-- of two different ids beside v one is the first end and one the second
pub beside : {f : Face} {v x y : ℕ} → TwoEnds f v x y → InFace f x → InFace f y → (a b : ℕ)
    → (in_face f a && in_face f b && different v a b) ≡ ((eqb a x && eqb b y) || (eqb a y && eqb b x))
beside {f} {v} {x} {y} s ix iy a b =
    same_test (in_face f a && in_face f b && different v a b) ((eqb a x && eqb b y) || (eqb a y && eqb b x)) (λ e.
    let two = and_first (in_face f a && in_face f b) (different v a b) e in
    which ((different_reads v a b).0 (and_second (in_face f a && in_face f b) (different v a b) e))
    (s.only a (in_face_lem f a (and_first (in_face f a) (in_face f b) two))) (s.only b (in_face_lem f b (and_second (in_face f a) (in_face f b) two)))) (λ e.
    ⊎_elim (λ p. back (inl (eqb-true a x (and_first (eqb a x) (eqb b y) p), eqb-true b y (and_second (eqb a x) (eqb b y) p))))
    (λ p. back (inr (eqb-true a y (and_first (eqb a y) (eqb b x) p), eqb-true b x (and_second (eqb a y) (eqb b x) p)))) (or_either (eqb a x && eqb b y) (eqb a y && eqb b x) e))
  where
    which : Different v a b → (a ≡ v) ⊎ ((a ≡ x) ⊎ (a ≡ y)) → (b ≡ v) ⊎ ((b ≡ x) ⊎ (b ≡ y)) → ((eqb a x && eqb b y) || (eqb a y && eqb b x)) ≡ true
    which (va, vb, ab) (inl p) q = absurd (va (sym p))
    which (va, vb, ab) (inr p) (inl q) = absurd (vb (sym q))
    which (va, vb, ab) (inr (inl p)) (inr (inl q)) = absurd (ab (p ∙ sym q))
    which (va, vb, ab) (inr (inl p)) (inr (inr q)) = or_first (eqb a y && eqb b x) (and_both (eq-eqb a x p) (eq-eqb b y q))
    which (va, vb, ab) (inr (inr p)) (inr (inl q)) = or_second (eqb a x && eqb b y) (and_both (eq-eqb a y p) (eq-eqb b x q))
    which (va, vb, ab) (inr (inr p)) (inr (inr q)) = absurd (ab (p ∙ sym q))

    back : ((a ≡ x) × (b ≡ y)) ⊎ ((a ≡ y) × (b ≡ x)) → (in_face f a && in_face f b && different v a b) ≡ true
    back (inl (p, q)) = rw (p, q) (and_both (and_both (face_in f x ix) (face_in f y iy)) ((different_reads v x y).1 s.ends_differ))
    back (inr (p, q)) =
        let (vx, vy, xy) = s.ends_differ in
        rw (p, q) (and_both (and_both (face_in f y iy) (face_in f x ix)) ((different_reads v y x).1 (vy, vx, Ne-symm xy)))

-- ---- the corners of a triangle, by one computed test each

corners_test : all 4 (λ c. all 4 (λ k. eqb k c || (eqb (corner_of c 0) k || (eqb (corner_of c 1) k || eqb (corner_of c 2) k)))) ≡ true
unfolding all corner_of face_corners triangle_table edge_table vertex_table tabulate gather flatten
corners_test = refl

stays_test : all 4 (λ c. all 3 (λ i. ltb (corner_of c i) 4 && not (eqb (corner_of c i) c))) ≡ true
unfolding all corner_of face_corners triangle_table edge_table vertex_table tabulate gather flatten
stays_test = refl

corner_stays : (c i : ℕ) → c < 4 → i < 3 → (corner_of c i < 4) × (corner_of c i ≢ c)
corner_stays c i lc li =
    let e = all_each 3 (λ i. ltb (corner_of c i) 4 && not (eqb (corner_of c i) c)) (all_each 4 (λ c. all 3 (λ i. ltb (corner_of c i) 4 && not (eqb (corner_of c i) c))) stays_test c lc) i li in
    (ltb-true (corner_of c i) 4 (and_first (ltb (corner_of c i) 4) (not (eqb (corner_of c i) c)) e), eqb-false (corner_of c i) c (not-true (eqb (corner_of c i) c) (and_second (ltb (corner_of c i) 4) (not (eqb (corner_of c i) c)) e)))

-- a corner that is not left out
pub corner_of_face : (t : Table) (r c k : ℕ) → c < 4 → k < 4 → k ≢ c → InFace (face_of t r c) (t.id r k)
unfolding InFace face_of
corner_of_face t r c k lc lk ne =
    ⊎_elim (λ e. absurd (ne (eqb-true k c e))) (λ e.
    ⊎_elim (λ p. inl (ap (t.id r) (eqb-true (corner_of c 0) k p))) (λ e'.
    ⊎_elim (λ p. inr (inl (ap (t.id r) (eqb-true (corner_of c 1) k p)))) (λ p. inr (inr (ap (t.id r) (eqb-true (corner_of c 2) k p))))
    (or_either (eqb (corner_of c 1) k) (eqb (corner_of c 2) k) e')) (or_either (eqb (corner_of c 0) k) (eqb (corner_of c 1) k || eqb (corner_of c 2) k) e))
    (or_either (eqb k c) (eqb (corner_of c 0) k || (eqb (corner_of c 1) k || eqb (corner_of c 2) k))
    (all_each 4 (λ k. eqb k c || (eqb (corner_of c 0) k || (eqb (corner_of c 1) k || eqb (corner_of c 2) k)))
    (all_each 4 (λ c. all 4 (λ k. eqb k c || (eqb (corner_of c 0) k || (eqb (corner_of c 1) k || eqb (corner_of c 2) k)))) corners_test c lc) k lk))

pub face_corner : (t : Table) (r c u : ℕ) → c < 4 → InFace (face_of t r c) u → (k : ℕ) × (k < 4) × (k ≢ c) × (t.id r k ≡ u)
unfolding InFace face_of
face_corner t r c u lc (inl e) = let (l, ne) = corner_stays c 0 lc (lit< tt) in (corner_of c 0, l, ne, e)
face_corner t r c u lc (inr (inl e)) = let (l, ne) = corner_stays c 1 lc (lit< tt) in (corner_of c 1, l, ne, e)
face_corner t r c u lc (inr (inr e)) = let (l, ne) = corner_stays c 2 lc (lit< tt) in (corner_of c 2, l, ne, e)

rises_test : all 4 (λ c. ltb (corner_of c 0) (corner_of c 1) && ltb (corner_of c 1) (corner_of c 2)) ≡ true
unfolding all corner_of face_corners triangle_table edge_table vertex_table tabulate gather flatten
rises_test = refl

-- the ids rise within a triangle
pub face_rises : (t : Table) → t.corners ≡ 4 → {r : ℕ} → Rising t r → (c : ℕ) → c < 4 → ((face_of t r c).a < (face_of t r c).b) × ((face_of t r c).b < (face_of t r c).c)
unfolding face_of
face_rises t four up c lc =
    let e = all_each 4 (λ c. ltb (corner_of c 0) (corner_of c 1) && ltb (corner_of c 1) (corner_of c 2)) rises_test c lc in (
      up (corner_of c 0) (corner_of c 1) (ltb-true (corner_of c 0) (corner_of c 1) (and_first (ltb (corner_of c 0) (corner_of c 1)) (ltb (corner_of c 1) (corner_of c 2)) e)) (rw four (corner_stays c 1 lc (lit< tt)).0),
      up (corner_of c 1) (corner_of c 2) (ltb-true (corner_of c 1) (corner_of c 2) (and_second (ltb (corner_of c 0) (corner_of c 1)) (ltb (corner_of c 1) (corner_of c 2)) e)) (rw four (corner_stays c 2 lc (lit< tt)).0),
    )

-- ---- far edges by places

-- the triangle at a place is on the skin, its row inside, and v one of its ids
unfoldable pub shown : Table → (ℕ → Bool) → ℕ → ℕ → ℕ → Bool
shown t inside v r c = inside r && (on_skin t inside r c && in_face (face_of t r c) v)

-- at place p
abbrev pub shown_at : Table → (ℕ → Bool) → ℕ → ℕ → Bool
shown_at t inside v p = shown t inside v (p / 4) (p % 4)

-- and a b is the edge opposite v
unfoldable pub far_at : Table → (ℕ → Bool) → ℕ → ℕ → ℕ → ℕ → Bool
far_at t inside v p a b =
    shown_at t inside v p && (in_face (face_of t (p / 4) (p % 4)) a && in_face (face_of t (p / 4) (p % 4)) b && different v a b)

record FarIn (t : Table) (inside : ℕ → Bool) (v r c a b : ℕ) : Type 0 where
  is_inside : inside r ≡ true
  on_skin_lem : on_skin t inside r c ≡ true
  differ : Different v a b
  ids : TriangleIds t r c v a b

pub differ_far : (t : Table) (inside : ℕ → Bool) (v a b : ℕ) → far_edge t inside v a b ≡ true → different v a b ≡ true
unfolding far_edge
differ_far t inside v a b e = and_first (different v a b) (eqb (count t.rows (λ s. inside s && holds_three t v a b s)) 1) e

module _ (t : Table) (four : t.corners ≡ 4) (inside : ℕ → Bool) (v : ℕ) where
  far_in : (p a b : ℕ) → far_at t inside v p a b ≡ true → FarIn t inside v (p / 4) (p % 4) a b
  unfolding far_at shown
  far_in p a b e =
      let r = p / 4 in
      let c = p % 4 in
      let f = face_of t r c in
      let show = and_first (inside r && (on_skin t inside r c && in_face f v)) (in_face f a && in_face f b && different v a b) e in
      let rest = and_second (inside r && (on_skin t inside r c && in_face f v)) (in_face f a && in_face f b && different v a b) e in
      let skin = and_second (inside r) (on_skin t inside r c && in_face f v) show in
      let two = and_first (in_face f a && in_face f b) (different v a b) rest in
      let lc = mod-lt p (lit< tt) in
      let (i, li, ni, ei) = face_corner t r c v lc (in_face_lem f v (and_second (on_skin t inside r c) (in_face f v) skin)) in
      let (j, lj, nj, ej) = face_corner t r c a lc (in_face_lem f a (and_first (in_face f a) (in_face f b) two)) in
      let (k, lk, nk, ek) = face_corner t r c b lc (in_face_lem f b (and_second (in_face f a) (in_face f b) two)) in
      record {
        is_inside = and_first (inside r) (on_skin t inside r c && in_face f v) show;
        on_skin_lem = and_first (on_skin t inside r c) (in_face f v) skin;
        differ = (different_reads v a b).0 (and_second (in_face f a && in_face f b) (different v a b) rest);
        ids = record {
          first = i;
          second = j;
          third = k;
          first_below = li;
          second_below = lj;
          third_below = lk;
          first_stays = ni;
          second_stays = nj;
          third_stays = nk;
          first_is = ei;
          second_is = ej;
          third_is = ek;
        };
      }

  in_far : (r c a b : ℕ) → c < 4 → FarIn t inside v r c a b → far_at t inside v (4 * r + c) a b ≡ true
  unfolding far_at shown
  in_far r c a b lc x =
      rw (row_of {m = 4} (lit< tt) r c lc, within_row {m = 4} (lit< tt) r c lc) (and_both (and_both x.is_inside (and_both x.on_skin_lem (held x.ids.first x.ids.first_below x.ids.first_stays x.ids.first_is)))
      (and_both (and_both (held x.ids.second x.ids.second_below x.ids.second_stays x.ids.second_is) (held x.ids.third x.ids.third_below x.ids.third_stays x.ids.third_is))
      ((different_reads v a b).1 x.differ)))
    where
      held : (k : ℕ) {u : ℕ} → k < 4 → k ≢ c → t.id r k ≡ u → in_face (face_of t r c) u ≡ true
      held k lk ne e = rw (← e) (face_in (face_of t r c) (t.id r k) (corner_of_face t r c k lc lk ne))

  -- an edge that is met is a far edge
  met_far : (p a b : ℕ) → far_at t inside v p a b ≡ true → far_edge t inside v a b ≡ true
  met_far p a b e = let x = far_in p a b e in sym (skin_far t four inside x.ids x.differ (mod-lt p (lit< tt))) ∙ x.on_skin_lem

  -- in an inside row that holds its three ids
  met_row : (p a b : ℕ) → far_at t inside v p a b ≡ true → (inside (p / 4) && holds_three t v a b (p / 4)) ≡ true
  met_row p a b e =
      let x = far_in p a b e in
      and_both x.is_inside ((three_reads t four v a b (p / 4)).1 (held x.ids.first x.ids.first_below x.ids.first_is, held x.ids.second x.ids.second_below x.ids.second_is, held x.ids.third x.ids.third_below x.ids.third_is))
    where
      held : (k : ℕ) {u : ℕ} → k < 4 → t.id (p / 4) k ≡ u → Holds t (p / 4) u
      held k l e = (k, rw four l, e)

  the_row : (a b : ℕ) → far_edge t inside v a b ≡ true → ExactlyOne t.rows (λ s. (inside s && holds_three t v a b s) ≡ true)
  unfolding far_edge
  the_row a b e =
      count_one t.rows (λ s. inside s && holds_three t v a b s) (eqb-true (count t.rows (λ s. inside s && holds_three t v a b s)) 1
      (and_second (different v a b) (eqb (count t.rows (λ s. inside s && holds_three t v a b s)) 1) e))

  module _ (up : (r : ℕ) → r < t.rows → Rising t r) where
    -- a far edge is met at one place
    pub met_once : (p q a b : ℕ) → p < 4 * t.rows → q < 4 * t.rows → far_at t inside v p a b ≡ true → far_at t inside v q a b ≡ true → p ≡ q
    met_once p q a b lp lq ep eq = omega (arith, div-add-mod p 4, div-add-mod q 4, row, corner)
      where
        row : p / 4 ≡ q / 4
        row =
            let one = the_row a b (met_far p a b ep) in
            one.only (p / 4) (row_below {m = 4} (lit< tt) t.rows p lp) (met_row p a b ep) ∙ sym (one.only (q / 4) (row_below {m = 4} (lit< tt) t.rows q lq) (met_row q a b eq))

        x : FarIn t inside v (p / 4) (p % 4) a b
        x = far_in p a b ep

        y : FarIn t inside v (q / 4) (q % 4) a b
        y = far_in q a b eq

        -- the corner of an id, found twice
        same : (i j : ℕ) {u : ℕ} → i < 4 → j < 4 → t.id (p / 4) i ≡ u → t.id (q / 4) j ≡ u → j ≡ i
        same i j li lj ei ej =
            one_corner t (up (p / 4) (row_below {m = 4} (lit< tt) t.rows p lp)) j i (rw four lj) (rw four li) (ap (λ (s : ℕ). t.id s j) row ∙ ej ∙ sym ei)

        left : ExactlyOne 4 (λ m. (m ≢ x.ids.first) × (m ≢ x.ids.second) × (m ≢ x.ids.third))
        left =
            let (va, vb, ab) = x.differ in
            fourth_corner x.ids.first x.ids.second x.ids.third x.ids.first_below x.ids.second_below x.ids.third_below
            (λ (e : x.ids.first ≡ x.ids.second). va (sym x.ids.first_is ∙ ap (t.id (p / 4)) e ∙ x.ids.second_is))
            (λ (e : x.ids.first ≡ x.ids.third). vb (sym x.ids.first_is ∙ ap (t.id (p / 4)) e ∙ x.ids.third_is))
            (λ (e : x.ids.second ≡ x.ids.third). ab (sym x.ids.second_is ∙ ap (t.id (p / 4)) e ∙ x.ids.third_is))

        stays : (i j : ℕ) {u : ℕ} → i < 4 → j < 4 → t.id (p / 4) i ≡ u → t.id (q / 4) j ≡ u → j ≢ q % 4 → q % 4 ≢ i
        stays i j li lj ei ej ne e = ne (same i j li lj ei ej ∙ sym e)

        corner : p % 4 ≡ q % 4
        corner =
            left.only (p % 4) (mod-lt p (lit< tt)) (Ne-symm x.ids.first_stays, Ne-symm x.ids.second_stays, Ne-symm x.ids.third_stays)
            ∙ sym (left.only (q % 4) (mod-lt q (lit< tt)) (
              stays x.ids.first y.ids.first x.ids.first_below y.ids.first_below x.ids.first_is y.ids.first_is y.ids.first_stays,
              stays x.ids.second y.ids.second x.ids.second_below y.ids.second_below x.ids.second_is y.ids.second_is y.ids.second_stays,
              stays x.ids.third y.ids.third x.ids.third_below y.ids.third_below x.ids.third_is y.ids.third_is y.ids.third_stays,
            ))

    -- the far edges are those met
    pub all_met : (a b : ℕ) → any (4 * t.rows) (λ q. far_at t inside v q a b) ≡ far_edge t inside v a b
    all_met a b =
        same_test (any (4 * t.rows) (λ q. far_at t inside v q a b)) (far_edge t inside v a b)
        (λ e. let (p, _, f) = any_some (4 * t.rows) (λ q. far_at t inside v q a b) e in met_far p a b f) found
      where
        found : far_edge t inside v a b ≡ true → any (4 * t.rows) (λ q. far_at t inside v q a b) ≡ true
        found e =
            let one = the_row a b e in
            let s = one.one in
            let d = (different_reads v a b).0 (differ_far t inside v a b e) in
            let (hv, ha, hb) = (three_reads t four v a b s).0 (and_second (inside s) (holds_three t v a b s) one.is) in
            let (c, lc, ids) = triangle_of t four s v a b d hv ha hb in
            any_here (4 * t.rows) (λ q. far_at t inside v q a b) (4 * s + c) (place_below {m = 4} (lit< tt) t.rows s c one.below lc) (in_far s c a b lc (record {
              is_inside = and_first (inside s) (holds_three t v a b s) one.is;
              on_skin_lem = skin_far t four inside ids d lc ∙ e;
              differ = d;
              ids = ids;
            }))

-- ---- what the ring test rests on

-- a closed table with its neighbour list, no more ids than the limit, and a mark for each row
pub record Marked (bytes neighbours marks : List ℕ) (ids : ℕ) : Type 0 where
  pub ground : Ground bytes neighbours ids
  pub closed : Closed (table_in bytes) ids
  pub few : ids ≤ most_ids
  pub each : length marks ≡ rows_in bytes

pub marked_by : {bytes neighbours marks : List ℕ} {ids : ℕ} → Ground bytes neighbours ids → Closed (table_in bytes) ids → ids ≤ most_ids → length marks ≡ rows_in bytes
    → Marked bytes neighbours marks ids
marked_by on_ground closed few each = record { ground = on_ground; closed = closed; few = few; each = each }
