-- The skin list: exactly the triangles with one row inside and one outside, named from either of the two; the ids of each rise.
use Rattle.std.specs.Prelude.{◌≡◌, refl, ◌↔◌, Bool, true, ℕ, ◌*◌, ◌/◌, ◌%◌, ◌<◌}
use Rattle.std.proofs.Common.{sym, ◌∙◌, subst, arith, lt_trans}
use Rattle.std.proofs.Math.Path.{ap}
use mathlib.Core.List.Memᴰ
use mathlib.Core.List.{List, [], ◌∷◌, map}
use Rattle.rules.specs.Below.{pick}
use Rattle.rules.specs.Shape.{facet}
use Rattle.rules.specs.Table.{Table}
use Rattle.rules.specs.Skin.{on_skin, triangle, skin}
use Rattle.rules.specs.Laws.Truth.{and_first}
use Rattle.rules.specs.Laws.Lists.{Among, pick_in, Ascending, pick_ascending, map_pick}
use Rattle.rules.specs.Laws.Shape.{facet_three, three_facet}
use Rattle.rules.specs.Reading.Rows.{lower_first, Holds}
use Rattle.rules.specs.Reading.Neighbours.{Side, side_self}
use Rattle.rules.specs.Reading.Closed.{Paired}
use Rattle.rules.specs.Reading.Skin.{Inside, OnSkin, BetweenSides, skin_reads, skin_between_sides, triangle_of}
use Rattle.rules.specs.Reading.Outer.{OuterAlike, finite_ids}
use Rattle.rules.specs.Reading.Ring.{Clean}
use Rattle.rules.specs.Reading.Room.{Listed, skin_listed, triangle_at, listed_at, skin_by_place, triangle_holds, holds_triangle}

-- three ids that rise
abbrev pub ThreeRising : List ℕ → Type 0
ThreeRising ids = (a : ℕ) × (b : ℕ) × (c : ℕ) × (a < b) × (b < c) × (ids ≡ a ∷ b ∷ c ∷ [])

-- a triangle that a row has, between the sides
pub record SideTriangle (t : Table) (In : ℕ → Type 0) (ids : List ℕ) : Type 0 where
  pub row : ℕ
  pub corner : ℕ
  pub row_below : row < t.rows
  pub corner_below : corner < t.corners
  pub between : BetweenSides t In row corner
  pub ids_are : ids ≡ triangle t row corner

-- The triangles at places that rise: place 4r + c is the triangle of row r, an inside row, that leaves out corner c.
pub record InOrder (t : Table) (In : ℕ → Type 0) (list : List (List ℕ)) : Type 0 where
  pub places : List ℕ
  pub ascending : Ascending places
  pub of_inside : (p : ℕ) → Among p places → In (p / 4)
  pub listed : list ≡ map (triangle_at t) places

module _ (t : Table) (four : t.corners ≡ 4) {id_count : ℕ} (paired : Paired t id_count) where
  below_corners : {c : ℕ} → c < 4 → c < t.corners
  below_corners {c} l = subst (λ (n : ℕ). c < n) (sym four) l

  triangle_is : (r c i j k : ℕ) → facet 4 c ≡ i ∷ j ∷ k ∷ [] → triangle t r c ≡ t.id r i ∷ t.id r j ∷ t.id r k ∷ []
  unfolding triangle
  triangle_is r c i j k e = ap (λ (n : ℕ). map (t.id r) (facet n c)) four ∙ ap (map (t.id r)) e

  pub triangle_rises : (r c : ℕ) → r < t.rows → c < 4 → ThreeRising (triangle t r c)
  triangle_rises r c l m =
      let (i, j, k, ij, jk, k4, _, e) = facet_three c m in
      (t.id r i, t.id r j, t.id r k, paired.rising r l i j ij (below_corners (lt_trans jk k4)), paired.rising r l j k jk (below_corners k4), triangle_is r c i j k e)

  -- a row that holds a triangle has it as one of its own
  own_triangle : (r c s : ℕ) → r < t.rows → c < 4 → s < t.rows → Side t r c s → (d : ℕ) × (d < 4) × (triangle t s d ≡ triangle t r c)
  own_triangle r c s lr lc ls held =
      let (i, j, k, ij, jk, k4, (ni, nj, nk), e) = facet_three c lc in
      let lj = lt_trans jk k4 in
      let up : t.id r i < t.id r j = paired.rising r lr i j ij (below_corners lj) in
      let up' : t.id r j < t.id r k = paired.rising r lr j k jk (below_corners k4) in
      let (d, ld, x) =
      triangle_of t four s (t.id r i) (t.id r j) (t.id r k)
      (λ (q : t.id r i ≡ t.id r j). omega arith, λ (q : t.id r i ≡ t.id r k). omega arith, λ (q : t.id r j ≡ t.id r k). omega arith)
      (held i (below_corners (lt_trans ij lj)) ni) (held j (below_corners lj) nj) (held k (below_corners k4) nk)
      in
      let first = lower_first t (paired.rising s ls) x.first x.second (below_corners x.first_below) x.first_is x.second_is up in
      let second = lower_first t (paired.rising s ls) x.second x.third (below_corners x.second_below) x.second_is x.third_is up' in (
        d,
        ld,
        triangle_is s d x.first x.second x.third (three_facet d x.first x.second x.third ld first second x.third_below x.first_stays x.second_stays x.third_stays)
            ∙ listed x.first_is x.second_is x.third_is
            ∙ sym (triangle_is r c i j k e),
      )
    where
      listed : {a b c d e f : ℕ} → a ≡ d → b ≡ e → c ≡ f → ◌≡◌ {A = List ℕ} (a ∷ b ∷ c ∷ []) (d ∷ e ∷ f ∷ [])
      listed p q s = rw (p, q, s)

  -- the rows that hold a triangle do not depend on which row names it
  same_side_lem : (r c s d z : ℕ) → triangle t s d ≡ triangle t r c → Side t r c z → Side t s d z
  same_side_lem r c s d z e held k l ne =
      let (j, lj, stays, q) = holds_triangle t four r c (t.id s k) (subst (λ (xs : List ℕ). Among (t.id s k) xs) e (triangle_holds t four s d k (rw four at l) ne)) in
      subst (Holds t z) q (held j (below_corners lj) stays)

  module _ (inside : ℕ → Bool) {In : ℕ → Type 0} (told : (s : ℕ) → (inside s ≡ true) ↔ In s) where
    pub sides_listed : (ids : List ℕ) → Among ids (skin t inside) ↔ SideTriangle t In ids
    sides_listed ids = (λ m. forth ((skin_listed t inside (triangle t) told ids).0 m), λ x. (skin_listed t inside (triangle t) told ids).1 (back x))
      where
        on_skin_lem : (r c : ℕ) → r < t.rows → c < t.corners → BetweenSides t In r c ↔ OnSkin t In r c
        on_skin_lem r c l m = let (forth, back) = skin_between_sides t inside told paired r c l m in (λ b. (skin_reads t inside told r c).0 (back b), λ x. forth ((skin_reads t inside told r c).1 x))

        forth : Listed t In ids → SideTriangle t In ids
        forth x = record {
          row = x.row;
          corner = x.corner;
          row_below = x.row_below;
          corner_below = x.corner_below;
          between = (on_skin_lem x.row x.corner x.row_below x.corner_below).1 x.on_skin_lem;
          ids_are = x.ids_are;
        }

        back : SideTriangle t In ids → Listed t In ids
        back x =
            let b = x.between in
            let (d, ld, e) = own_triangle x.row x.corner b.in_row x.row_below (rw four at x.corner_below) b.in_below b.in_holds in
            record {
              row = b.in_row;
              corner = d;
              row_below = b.in_below;
              corner_below = below_corners ld;
              row_inside = b.is_inside;
              on_skin_lem = (on_skin_lem b.in_row d b.in_below (below_corners ld)).0 (record {
                in_row = b.in_row;
                out_row = b.out_row;
                in_below = b.in_below;
                out_below = b.out_below;
                in_holds = side_self t b.in_row d;
                out_holds = same_side_lem x.row x.corner b.in_row d b.out_row e b.out_holds;
                is_inside = b.is_inside;
                is_outside = b.is_outside;
              });
              ids_are = x.ids_are ∙ sym e;
            }

    -- by inside row, then left-out corner
    pub skin_order : InOrder t In (skin t inside)
    skin_order = record {
      places = pick (4 * t.rows) (listed_at t inside);
      ascending = pick_ascending (4 * t.rows) (listed_at t inside);
      of_inside = λ p m. (told (p / 4)).0 (and_first (inside (p / 4)) (on_skin t inside (p / 4) (p % 4)) (pick_in (4 * t.rows) (listed_at t inside) p m).1);
      listed = skin_by_place t inside (triangle t) four ∙ sym (map_pick (4 * t.rows) (listed_at t inside) (triangle_at t));
    }

    -- an empty skin is clean
    pub empty_clean : skin t inside ≡ [] → Clean t In id_count
    empty_clean none v l x =
        absurd (Memᴰ.not-nil (subst (λ (xs : List (List ℕ)). Among (triangle t x.row x.corner) xs) none
        ((sides_listed (triangle t x.row x.corner)).1 (record {
          row = x.row;
          corner = x.corner;
          row_below = x.row_below;
          corner_below = below_corners x.corner_below;
          between = (skin_between_sides t inside told paired x.row x.corner x.row_below (below_corners x.corner_below)).0 ((skin_reads t inside told x.row x.corner).1 x.on_skin_lem);
          ids_are = refl;
        }))))

-- where the outer rows are alike, no skin triangle holds id 0
pub finite_skin : (t : Table) (marks : List ℕ) → t.corners ≡ 4 → OuterAlike t marks → (ids : List ℕ) → SideTriangle t (Inside marks) ids → Among 0 ids → ⊥
finite_skin t marks four alike ids x m =
    let (k, l, ne, e) = holds_triangle t four x.row x.corner 0 (subst (λ (xs : List ℕ). Among 0 xs) x.ids_are m) in
    finite_ids t marks alike x.between k (subst (λ (n : ℕ). k < n) (sym four) l) ne e
