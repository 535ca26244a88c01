-- Skin: the triangles in exactly one inside row; on a closed table, those with one row inside and one outside.
use Rattle.std.specs.Prelude.{◌≡◌, ◌⊎◌, ◌↔◌, ◌≢◌, Bool, false, not, ◌&&◌, List, ℕ, ◌<◌, get_or}
use Rattle.std.proofs.Math.Path.{refl, ap}
use Rattle.std.proofs.Common.{sym, ap₂, ◌∙◌, subst, inl, inr, ⊎_elim}
use Rattle.std.proofs.Math.Logic.{Ne-symm}
use Rattle.std.proofs.Math.Bool.{true, xor, and_comm}
use Rattle.std.proofs.Math.Dec.{eqb}
use borrow.Author.Tests.{eqb-true, eq-eqb, eqb-false, ne_eqb, not-true}
use Rattle.rules.specs.Below.{any, count}
use Rattle.rules.specs.Table.{Table, holds, side, across}
use Rattle.rules.specs.Skin.{on_skin, different, holds_three, far_edge, far_end, skin_vertex}
use Rattle.rules.specs.Proposals.{inside_in}
use Rattle.rules.specs.Laws.Truth.{not_both, is_false, eqb_reads, same_test, and_first, and_second, and_both, same_or_not, eqb_back}
use Rattle.rules.specs.Laws.Below.{any_here, any_some}
use Rattle.rules.specs.Laws.Count.{ExactlyOne, one_map, ExactlyTwo, TheOther, count_same, count_one, one_count, one_side}
use Rattle.rules.specs.Laws.Shape.{fourth_corner, two_others}
use Rattle.rules.specs.Reading.Rows.{one_corner, Holds, holds_reads}
use Rattle.rules.specs.Reading.Neighbours.{Side, side_reads, side_self}
use Rattle.rules.specs.Reading.Closed.{Paired, across_other, across_is}

-- ---- the skin, in plain relations: `In s` says that row s is inside

-- by a list of marks: the mark is 1
abbrev pub Inside : List ℕ → ℕ → Type 0
Inside marks r = get_or marks r 0 ≡ 1

pub inside_reads : (marks : List ℕ) (r : ℕ) → (inside_in marks r ≡ true) ↔ Inside marks r
unfolding inside_in
inside_reads marks r = eqb_reads (get_or marks r 0) 1

-- by a test
pub as_tested : (inside : ℕ → Bool) (s : ℕ) → (inside s ≡ true) ↔ (inside s ≡ true)
as_tested inside s = (λ e. e, λ e. e)

module _ (t : Table) (In : ℕ → Type 0) where
  -- the triangle of row r that leaves out corner c is on the skin: it is in exactly one inside row
  abbrev pub OnSkin : ℕ → ℕ → Type 0
  OnSkin r c = ExactlyOne t.rows (λ s. In s × Side t r c s)

  -- of the rows that hold it one is inside, and one outside
  pub record BetweenSides (r c : ℕ) : Type 0 where
    pub in_row : ℕ
    pub out_row : ℕ
    pub in_below : in_row < t.rows
    pub out_below : out_row < t.rows
    pub in_holds : Side t r c in_row
    pub out_holds : Side t r c out_row
    pub is_inside : In in_row
    pub is_outside : In out_row → ⊥

  -- v is on the skin: a skin triangle holds it
  pub record SkinVertex (v : ℕ) : Type 0 where
    pub row : ℕ
    pub corner : ℕ
    pub at : ℕ
    pub row_below : row < t.rows
    pub corner_below : corner < 4
    pub at_below : at < 4
    pub stays : at ≢ corner
    pub on_skin_lem : OnSkin row corner
    pub is : t.id row at ≡ v

-- ---- the computed tests say so

module _ (t : Table) (inside : ℕ → Bool) where
  -- on the skin exactly if the marks of the two rows that hold the triangle differ
  pub skin_between : {id_count : ℕ} → Paired t id_count → (r c : ℕ) → r < t.rows → c < t.corners → on_skin t inside r c ≡ xor (inside r) (inside (across t r c))
  unfolding on_skin
  skin_between paired r c l m =
      let o = across_is paired r c l m in
      one_side t.rows (side t r c) inside r l ((side_reads t r c r).1 (side_self t r c)) (record {
        other = o.other;
        below = o.below;
        is = (side_reads t r c o.other).1 o.is;
        differs = o.differs;
        only = λ j n q ne. o.only j n ((side_reads t r c j).0 q) ne;
      })
      ∙ ap (λ (s : ℕ). xor (inside r) (inside s)) (sym (across_other t r c o))

  module _ {In : ℕ → Type 0} (told : (s : ℕ) → (inside s ≡ true) ↔ In s) where
    pub skin_reads : (r c : ℕ) → (on_skin t inside r c ≡ true) ↔ OnSkin t In r c
    unfolding on_skin
    skin_reads r c = (
      λ e. one_map forth back (count_one t.rows (λ s. inside s && side t r c s) (eqb-true (count t.rows (λ s. inside s && side t r c s)) 1 e)),
      λ x. eq-eqb (count t.rows (λ s. inside s && side t r c s)) 1 (one_count t.rows (λ s. inside s && side t r c s) (one_map back forth x)),
    )
      where
        forth : (s : ℕ) → (inside s && side t r c s) ≡ true → In s × Side t r c s
        forth s q = ((told s).0 (and_first (inside s) (side t r c s) q), (side_reads t r c s).0 (and_second (inside s) (side t r c s) q))

        back : (s : ℕ) → In s × Side t r c s → (inside s && side t r c s) ≡ true
        back s (i, h) = and_both ((told s).1 i) ((side_reads t r c s).1 h)

    pub skin_between_sides : {id_count : ℕ} → Paired t id_count → (r c : ℕ) → r < t.rows → c < t.corners → (on_skin t inside r c ≡ true) ↔ BetweenSides t In r c
    unfolding xor
    skin_between_sides paired r c l m = (λ e. forth (inside r) (inside o.other) refl refl (sym differ ∙ e), back)
      where
        o : TheOther t.rows (Side t r c) r
        o = across_is paired r c l m

        differ : on_skin t inside r c ≡ xor (inside r) (inside o.other)
        differ = skin_between paired r c l m ∙ ap (λ (s : ℕ). xor (inside r) (inside s)) (across_other t r c o)

        sides : (x y : ℕ) → x < t.rows → y < t.rows → Side t r c x → Side t r c y → inside x ≡ true → inside y ≡ false → BetweenSides t In r c
        sides x y lx ly hx hy ix iy = record {
          in_row = x;
          out_row = y;
          in_below = lx;
          out_below = ly;
          in_holds = hx;
          out_holds = hy;
          is_inside = (told x).0 ix;
          is_outside = λ i. not_both ((told y).1 i) iy;
        }

        forth : (a b : Bool) → inside r ≡ a → inside o.other ≡ b → xor (inside r) (inside o.other) ≡ true → BetweenSides t In r c
        forth true false p q _ = sides r o.other l o.below (side_self t r c) o.is p q
        forth false true p q _ = sides o.other r o.below l o.is (side_self t r c) q p
        forth true true p q x = absurd (not_both x (rw (p, q)))
        forth false false p q x = absurd (not_both x (rw (p, q)))

        -- a row that holds the triangle is row r or the other
        which : (x : ℕ) → x < t.rows → Side t r c x → (x ≡ r) ⊎ (x ≡ o.other)
        which x lx h = ⊎_elim inl (λ ne. inr (o.only x lx h ne)) (same_or_not x r)

        back : BetweenSides t In r c → on_skin t inside r c ≡ true
        back b = differ ∙ from (which b.in_row b.in_below b.in_holds) (which b.out_row b.out_below b.out_holds)
          where
            is_in : inside b.in_row ≡ true
            is_in = (told b.in_row).1 b.is_inside

            is_out : inside b.out_row ≡ false
            is_out = is_false (inside b.out_row) (λ i. b.is_outside ((told b.out_row).0 i))

            from : (b.in_row ≡ r) ⊎ (b.in_row ≡ o.other) → (b.out_row ≡ r) ⊎ (b.out_row ≡ o.other) → xor (inside r) (inside o.other) ≡ true
            from (inl e) (inl f) = absurd (not_both is_in (ap inside (e ∙ sym f) ∙ is_out))
            from (inl e) (inr f) = rw (ap inside (sym e) ∙ is_in, ap inside (sym f) ∙ is_out)
            from (inr e) (inl f) = rw (ap inside (sym e) ∙ is_in, ap inside (sym f) ∙ is_out)
            from (inr e) (inr f) = absurd (not_both is_in (ap inside (e ∙ sym f) ∙ is_out))

-- ---- far edges, in a table of four corners

abbrev pub Different : ℕ → ℕ → ℕ → Type 0
Different v a b = (v ≢ a) × (v ≢ b) × (a ≢ b)

pub different_reads : (v a b : ℕ) → (different v a b ≡ true) ↔ Different v a b
unfolding different
different_reads v a b = (
  λ e. let two = and_first (not (eqb v a) && not (eqb v b)) (not (eqb a b)) e in (
    eqb-false v a (not-true (eqb v a) (and_first (not (eqb v a)) (not (eqb v b)) two)),
    eqb-false v b (not-true (eqb v b) (and_second (not (eqb v a)) (not (eqb v b)) two)),
    eqb-false a b (not-true (eqb a b) (and_second (not (eqb v a) && not (eqb v b)) (not (eqb a b)) e)),
  ),
  λ (va, vb, ab). rw (ne_eqb v a va, ne_eqb v b vb, ne_eqb a b ab),
)

-- v, a and b are ids of row r at corners of its triangle that leaves out corner c
pub record TriangleIds (t : Table) (r c v a b : ℕ) : Type 0 where
  pub first : ℕ
  pub second : ℕ
  pub third : ℕ
  pub first_below : first < 4
  pub second_below : second < 4
  pub third_below : third < 4
  pub first_stays : first ≢ c
  pub second_stays : second ≢ c
  pub third_stays : third ≢ c
  pub first_is : t.id r first ≡ v
  pub second_is : t.id r second ≡ a
  pub third_is : t.id r third ≡ b

-- v, a and b are the ids of a skin triangle: a b is a far edge of v, the edge opposite it there
pub record SkinTriangle (t : Table) (In : ℕ → Type 0) (v a b : ℕ) : Type 0 where
  pub row : ℕ
  pub corner : ℕ
  pub row_below : row < t.rows
  pub corner_below : corner < 4
  pub on_skin_lem : OnSkin t In row corner
  pub different : Different v a b
  pub ids : TriangleIds t row corner v a b

module _ (t : Table) (four : t.corners ≡ 4) where
  pub three_reads : (v a b s : ℕ) → (holds_three t v a b s ≡ true) ↔ (Holds t s v × Holds t s a × Holds t s b)
  unfolding holds_three
  three_reads v a b s = (
    λ e. let two = and_first (holds t s v && holds t s a) (holds t s b) e in (
      (holds_reads t s v).0 (and_first (holds t s v) (holds t s a) two),
      (holds_reads t s a).0 (and_second (holds t s v) (holds t s a) two),
      (holds_reads t s b).0 (and_second (holds t s v && holds t s a) (holds t s b) e),
    ),
    λ (hv, ha, hb). and_both (and_both ((holds_reads t s v).1 hv) ((holds_reads t s a).1 ha)) ((holds_reads t s b).1 hb),
  )

  -- the rows that hold the triangle are those that hold its three ids
  pub triangle_rows : {r c v a b : ℕ} → TriangleIds t r c v a b → Different v a b → c < 4 → (s : ℕ) → side t r c s ≡ holds_three t v a b s
  triangle_rows {r} {c} {v} {a} {b} x (va, vb, ab) lc s =
      same_test (side t r c s) (holds_three t v a b s) (λ e. forth ((side_reads t r c s).0 e)) (λ e. (side_reads t r c s).1 (back ((three_reads v a b s).0 e)))
    where
      at : (k u : ℕ) → k < 4 → k ≢ c → t.id r k ≡ u → Side t r c s → Holds t s u
      at k u l ne e h = subst (Holds t s) e (h k (rw four l) ne)

      forth : Side t r c s → holds_three t v a b s ≡ true
      forth h =
          (three_reads v a b s).1 (
            at x.first v x.first_below x.first_stays x.first_is h,
            at x.second a x.second_below x.second_stays x.second_is h,
            at x.third b x.third_below x.third_stays x.third_is h,
          )

      left : ExactlyOne 4 (λ m. (m ≢ x.first) × (m ≢ x.second) × (m ≢ x.third))
      left =
          fourth_corner x.first x.second x.third x.first_below x.second_below x.third_below
          (λ (e : x.first ≡ x.second). va (sym x.first_is ∙ ap (t.id r) e ∙ x.second_is))
          (λ (e : x.first ≡ x.third). vb (sym x.first_is ∙ ap (t.id r) e ∙ x.third_is))
          (λ (e : x.second ≡ x.third). ab (sym x.second_is ∙ ap (t.id r) e ∙ x.third_is))

      left_out : c ≡ left.one
      left_out = left.only c lc (Ne-symm x.first_stays, Ne-symm x.second_stays, Ne-symm x.third_stays)

      back : Holds t s v × Holds t s a × Holds t s b → Side t r c s
      back (hv, ha, hb) k l ne =
          ⊎_elim (λ (e : k ≡ x.first). subst (Holds t s) (sym x.first_is ∙ ap (t.id r) (sym e)) hv) (λ n₁.
          ⊎_elim (λ (e : k ≡ x.second). subst (Holds t s) (sym x.second_is ∙ ap (t.id r) (sym e)) ha) (λ n₂.
          ⊎_elim (λ (e : k ≡ x.third). subst (Holds t s) (sym x.third_is ∙ ap (t.id r) (sym e)) hb)
          (λ n₃. absurd (ne (left.only k (rw four at l) (n₁, n₂, n₃) ∙ sym left_out))) (same_or_not k x.third)) (same_or_not k x.second)) (same_or_not k x.first)

  -- a row that holds three different ids has them at the corners of one of its triangles
  pub triangle_of : (r v a b : ℕ) → Different v a b → Holds t r v → Holds t r a → Holds t r b → (c : ℕ) × (c < 4) × TriangleIds t r c v a b
  triangle_of r v a b (va, vb, ab) (i, li, pi) (j, lj, pj) (k, lk, pk) =
      let x =
      fourth_corner i j k (rw four at li) (rw four at lj) (rw four at lk) (λ (e : i ≡ j). va (sym pi ∙ ap (t.id r) e ∙ pj))
      (λ (e : i ≡ k). vb (sym pi ∙ ap (t.id r) e ∙ pk)) (λ (e : j ≡ k). ab (sym pj ∙ ap (t.id r) e ∙ pk))
      in (
        x.one,
        x.below,
        record {
          first = i;
          second = j;
          third = k;
          first_below = rw four at li;
          second_below = rw four at lj;
          third_below = rw four at lk;
          first_stays = Ne-symm x.is.0;
          second_stays = Ne-symm x.is.1;
          third_stays = Ne-symm x.is.2;
          first_is = pi;
          second_is = pj;
          third_is = pk;
        },
      )

  module _ (inside : ℕ → Bool) where
    -- how many inside rows hold the three ids
    inside_rows : ℕ → ℕ → ℕ → ℕ
    inside_rows v a b = count t.rows (λ s. inside s && holds_three t v a b s)

    skin_count : {r c v a b : ℕ} → TriangleIds t r c v a b → Different v a b → c < 4 → on_skin t inside r c ≡ eqb (inside_rows v a b) 1
    unfolding on_skin inside_rows
    skin_count {r} {c} {v} {a} {b} x d lc =
        ap (λ (n : ℕ). eqb n 1)
        (count_same t.rows (λ s. inside s && side t r c s) (λ s. inside s && holds_three t v a b s) (λ s _. ap (λ (h : Bool). inside s && h) (triangle_rows x d lc s)))

    -- a triangle of a row is on the skin exactly if two of its ids are a far edge of the third
    pub skin_far : {r c v a b : ℕ} → TriangleIds t r c v a b → Different v a b → c < 4 → on_skin t inside r c ≡ far_edge t inside v a b
    unfolding far_edge inside_rows
    skin_far {v = v} {a = a} {b = b} x d lc = rw ((different_reads v a b).1 d) (skin_count x d lc)

    module _ {In : ℕ → Type 0} (told : (s : ℕ) → (inside s ≡ true) ↔ In s) where
      -- the far edges of v are the edges opposite it in the skin triangles that hold it
      pub far_reads : (v a b : ℕ) → (far_edge t inside v a b ≡ true) ↔ SkinTriangle t In v a b
      unfolding far_edge inside_rows
      far_reads v a b = (
        λ e.
            forth ((different_reads v a b).0 (and_first (different v a b) (eqb (inside_rows v a b) 1) e)) (and_second (different v a b) (eqb (inside_rows v a b) 1) e),
        λ x.
            and_both ((different_reads v a b).1 x.different)
            (sym (skin_count x.ids x.different x.corner_below) ∙ (skin_reads t inside told x.row x.corner).1 x.on_skin_lem),
      )
        where
          at : Different v a b → eqb (inside_rows v a b) 1 ≡ true → (r : ℕ) → r < t.rows → Holds t r v × Holds t r a × Holds t r b → SkinTriangle t In v a b
          at d one r l (hv, ha, hb) =
              let (c, lc, x) = triangle_of r v a b d hv ha hb in
              record { row = r; corner = c; row_below = l; corner_below = lc; on_skin_lem = (skin_reads t inside told r c).0 (skin_count x d lc ∙ one); different = d; ids = x }

          forth : Different v a b → eqb (inside_rows v a b) 1 ≡ true → SkinTriangle t In v a b
          forth d one =
              let x = count_one t.rows (λ s. inside s && holds_three t v a b s) (eqb-true (inside_rows v a b) 1 one) in
              at d one x.one x.below ((three_reads v a b x.one).0 (and_second (inside x.one) (holds_three t v a b x.one) x.is))

      -- v is on the skin exactly if a skin triangle holds it
      pub skin_vertex_reads : {id_count : ℕ} → Paired t id_count → (v : ℕ) → (skin_vertex t inside id_count v ≡ true) ↔ SkinVertex t In v
      unfolding skin_vertex far_end
      skin_vertex_reads {id_count} paired v = (
        λ e.
            let (a, _, p) = any_some id_count (far_end t inside id_count v) e in
            let (b, _, q) = any_some id_count (far_edge t inside v a) p in
            let x = (far_reads v a b).0 q in
            record {
              row = x.row;
              corner = x.corner;
              at = x.ids.first;
              row_below = x.row_below;
              corner_below = x.corner_below;
              at_below = x.ids.first_below;
              stays = x.ids.first_stays;
              on_skin_lem = x.on_skin_lem;
              is = x.ids.first_is;
            },
        λ y. other_corners y (two_others y.corner y.at y.corner_below y.at_below (Ne-symm y.stays)),
      )
        where
          other_corners : (y : SkinVertex t In v) → ExactlyTwo 4 (λ m. (m ≢ y.corner) × (m ≢ y.at)) → any id_count (far_end t inside id_count v) ≡ true
          other_corners y x =
              let r = y.row in
              any_here id_count (far_end t inside id_count v) (t.id r x.one) (paired.below r y.row_below x.one (rw four x.one_below))
              (any_here id_count (far_edge t inside v (t.id r x.one)) (t.id r x.two) (paired.below r y.row_below x.two (rw four x.two_below))
              ((far_reads v (t.id r x.one) (t.id r x.two)).1 (record {
                row = r;
                corner = y.corner;
                row_below = y.row_below;
                corner_below = y.corner_below;
                on_skin_lem = y.on_skin_lem;
                different = (
                  λ (q : v ≡ t.id r x.one). x.one_is.1 (sym (same y.at x.one y.at_below x.one_below (y.is ∙ q))),
                  λ (q : v ≡ t.id r x.two). x.two_is.1 (sym (same y.at x.two y.at_below x.two_below (y.is ∙ q))),
                  λ (q : t.id r x.one ≡ t.id r x.two). x.differ (same x.one x.two x.one_below x.two_below q),
                );
                ids = record {
                  first = y.at;
                  second = x.one;
                  third = x.two;
                  first_below = y.at_below;
                  second_below = x.one_below;
                  third_below = x.two_below;
                  first_stays = y.stays;
                  second_stays = x.one_is.0;
                  third_stays = x.two_is.0;
                  first_is = y.is;
                  second_is = refl;
                  third_is = refl;
                };
              })))
            where
              same : (i j : ℕ) → i < 4 → j < 4 → t.id y.row i ≡ t.id y.row j → i ≡ j
              same i j li lj q = one_corner t (paired.rising y.row y.row_below) i j (rw four li) (rw four lj) q

-- far edges have no direction
pub far_back : (t : Table) (inside : ℕ → Bool) (v a b : ℕ) → far_edge t inside v a b ≡ far_edge t inside v b a
unfolding far_edge different holds_three
far_back t inside v a b = ap₂ (λ (x y : Bool). x && y) ids (ap (λ (n : ℕ). eqb n 1) rows)
  where
    ids : different v a b ≡ different v b a
    ids = rw (eqb_back a b, and_comm (not (eqb v a)) (not (eqb v b)))

    last_two : (x y z : Bool) → (x && y && z) ≡ (x && z && y)
    last_two true y z = and_comm y z
    last_two false y z = refl

    rows : count t.rows (λ s. inside s && holds_three t v a b s) ≡ count t.rows (λ s. inside s && holds_three t v b a s)
    rows =
        count_same t.rows (λ s. inside s && holds_three t v a b s) (λ s. inside s && holds_three t v b a s) (λ s _.
        ap (λ (x : Bool). inside s && x) (last_two (holds t s v) (holds t s a) (holds t s b)))
