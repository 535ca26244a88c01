-- There are at most 2N triangles on the skin of a closed table of N rows, so 6N words hold them.
-- Each row has as many triangles as corners. A skin triangle is one of its inside row and one of its outside row; counted from the
-- inside rows there are at most so many for each inside row, and counted from the outside rows at most so many for each outside row.
use Rattle.std.specs.Prelude.{◌≡◌, refl, ◌↔◌, ◌≢◌, true, false, ◌&&◌, eqb}
use Rattle.std.proofs.Common.{sym, ap, ◌∙◌, le_refl, le_trans, le_of_eq, mul-one, mod-lt, arith, lit<, length-append}
use Rattle.std.proofs.Math.Path.{subst}
use Rattle.std.proofs.Math.Logic.{⊎_elim, Ne-symm}
use Rattle.std.proofs.Math.Bool.{Bool, not, xor}
use mathlib.Core.List.Memᴰ
use mathlib.Core.List.{List, [], ◌∷◌, flatten}
use Prim.Native.Nat.{ℕ, ◌+◌, ◌*◌, ◌/◌, ◌%◌, ◌≤◌, ◌<◌, zero-le}
use Rattle.std.proofs.Math.Nat.{div-add-mod}
use Rattle.std.proofs.Math.ListN.{length}
use Rattle.std.proofs.lemmas.List.{length-map}
use borrow.Author.Tests.{eqb-true, eq-eqb, eqb-false, ne_eqb, not-true}
use Rattle.rules.specs.Below.{bit, sum, count, gather, only, pick}
use Rattle.rules.specs.Shape.{facet}
use Rattle.rules.specs.Table.{Table, side}
use Rattle.rules.specs.Skin.{on_skin, triangle, skin_of, skin_as, skin}
use Rattle.rules.specs.Laws.Truth.{true_or_false, not_both, and_first, and_second, and_both, same_or_not}
use Rattle.rules.specs.Laws.Count.{sum_same, sum_add, sum_zero, sum_le, sum_const, sum_swap, bit_one, bit_zero, count_without, count_not, one_count, TheOther}
use Rattle.rules.specs.Laws.Lists.{Among, Distinct, gather_same, gather_blocks, gather_length, in_gather, gather_in, gathered_once, in_only, only_in, only_length, in_pick, pick_in, pick_length}
use Rattle.rules.specs.Laws.Places.{row_of, within_row, row_below}
use Rattle.rules.specs.Reading.Rows.{one_corner}
use Rattle.rules.specs.Reading.Neighbours.{Side, side_self, side_reads, sides, sides_back}
use Rattle.rules.specs.Reading.Closed.{Paired, across_is, across_other}
use Rattle.rules.specs.Reading.Skin.{OnSkin, as_tested, skin_reads, skin_between}

module _ (t : Table) (inside : ℕ → Bool) where
  -- the skin triangles of an inside row
  listed : ℕ → ℕ → Bool
  listed r c = inside r && on_skin t inside r c

  skin_length : (ids : ℕ → ℕ → List ℕ) → length (skin_as t inside ids) ≡ sum t.rows (λ r. sum t.corners (λ c. bit (listed r c)))
  unfolding skin_as skin_of listed
  skin_length ids =
      gather_length t.rows (skin_of t inside ids)
      ∙ sum_same t.rows (λ r. length (skin_of t inside ids r)) (λ r. sum t.corners (λ c. bit (listed r c))) (λ r _.
      gather_length t.corners (λ c. only (listed r c) (ids r c))
      ∙ sum_same t.corners (λ c. length (only (listed r c) (ids r c))) (λ c. bit (listed r c)) (λ c _. only_length (listed r c) (ids r c)))

  -- as many triangles in whatever order their ids are listed
  pub skin_same_length : (ids : ℕ → ℕ → List ℕ) → length (skin_as t inside ids) ≡ length (skin t inside)
  skin_same_length ids = skin_length ids ∙ sym (skin_length (triangle t))

  bit_le : {a b : Bool} → (a ≡ true → b ≡ true) → bit a ≤ bit b
  bit_le {a = true} f = rw (f refl) (le_refl (bit true))
  bit_le {a = false} f = rw (bit_zero {b = false} refl) zero-le

  module _ {id_count : ℕ} (paired : Paired t id_count) where
    -- row s is outside, and is the row across the triangle of row r that leaves out c
    outside_of : ℕ → ℕ → ℕ → Bool
    outside_of r c s = not (inside s) && (not (eqb s r) && side t r c s)

    -- each listed triangle has a row outside
    listed_outside : (r c : ℕ) → r < t.rows → c < t.corners → bit (listed r c) ≤ sum t.rows (λ s. bit (outside_of r c s))
    unfolding listed outside_of xor count
    listed_outside r c l m = ⊎_elim found_outside (λ f. rw (bit_zero f) zero-le) (true_or_false (listed r c))
      where
        o : TheOther t.rows (Side t r c) r
        o = across_is paired r c l m

        outside : listed r c ≡ true → inside o.other ≡ false
        outside e = go (inside r) (inside o.other) (and_first (inside r) (on_skin t inside r c) e)
            (sym (skin_between t inside paired r c l m ∙ ap (λ (s : ℕ). xor (inside r) (inside s)) (across_other t r c o)) ∙ and_second (inside r) (on_skin t inside r c) e)
          where
            go : (a b : Bool) → a ≡ true → xor a b ≡ true → b ≡ false
            go true true p x = sym x
            go true false p x = refl
            go false b p x = absurd (not_both p refl)

        found_outside : listed r c ≡ true → bit (listed r c) ≤ sum t.rows (λ s. bit (outside_of r c s))
        found_outside e =
            let here : outside_of r c o.other ≡ true =
            and_both (ap not (outside e)) (and_both (ap not (ne_eqb o.other r o.differs)) ((side_reads t r c o.other).1 o.is))
            in
            rw (bit_one e) (omega (arith, count_without t.rows (outside_of r c) o.other o.below here))

    -- an outside row is so for at most as many triangles as it has corners
    outside_of_row : (s : ℕ) → s < t.rows → sum t.rows (λ r. sum t.corners (λ c. bit (outside_of r c s))) ≤ sum t.corners (λ c. bit (not (inside s)))
    unfolding outside_of sides count
    outside_of_row s l = ⊎_elim is_inside is_outside (true_or_false (inside s))
      where
        -- a triangle of one row in another
        shared : ℕ → ℕ → ℕ → Bool
        shared r c q = not (eqb q r) && side t r c q

        is_inside : inside s ≡ true → sum t.rows (λ r. sum t.corners (λ c. bit (outside_of r c s))) ≤ sum t.corners (λ c. bit (not (inside s)))
        is_inside e =
            rw (sum_zero t.rows (λ r. sum t.corners (λ c. bit (outside_of r c s))) (λ r _.
            sum_zero t.corners (λ c. bit (outside_of r c s)) (λ c _. bit_zero (ap (λ (i : Bool). not i && shared r c s) e)))) zero-le

        -- the triangles of row r in row s are as many as those of row s in row r
        both_ways : (r : ℕ) → r < t.rows → sum t.corners (λ c. bit (shared r c s)) ≡ sum t.corners (λ d. bit (shared s d r))
        both_ways r m = ⊎_elim same apart (same_or_not s r)
          where
            same : s ≡ r → sum t.corners (λ c. bit (shared r c s)) ≡ sum t.corners (λ d. bit (shared s d r))
            same e =
                sum_zero t.corners (λ c. bit (shared r c s)) (λ c _. bit_zero (ap (λ (i : Bool). not i && side t r c s) (eq-eqb s r e)))
                ∙ sym (sum_zero t.corners (λ d. bit (shared s d r)) (λ d _. bit_zero (ap (λ (i : Bool). not i && side t s d r) (eq-eqb r s (sym e)))))

            apart : s ≢ r → sum t.corners (λ c. bit (shared r c s)) ≡ sum t.corners (λ d. bit (shared s d r))
            apart ne =
                sum_same t.corners (λ c. bit (shared r c s)) (λ c. bit (side t r c s)) (λ c _. ap (λ (i : Bool). bit (not i && side t r c s)) (ne_eqb s r ne))
                ∙ sides_back t r s (paired.rising r m) (paired.rising s l)
                ∙ sum_same t.corners (λ d. bit (side t s d r)) (λ d. bit (shared s d r)) (λ d _. ap (λ (i : Bool). bit (not i && side t s d r)) (sym (ne_eqb r s (Ne-symm ne))))

        is_outside : inside s ≡ false → sum t.rows (λ r. sum t.corners (λ c. bit (outside_of r c s))) ≤ sum t.corners (λ c. bit (not (inside s)))
        is_outside f =
            le_of_eq (
            sum_same t.rows (λ r. sum t.corners (λ c. bit (outside_of r c s))) (λ r. sum t.corners (λ d. bit (shared s d r))) (λ r m.
            sum_same t.corners (λ c. bit (outside_of r c s)) (λ c. bit (shared r c s)) (λ c _. ap (λ (i : Bool). bit (not i && shared r c s)) f)
            ∙ both_ways r m)
            ∙ sum_swap t.rows t.corners (λ r d. bit (shared s d r))
            ∙ sum_same t.corners (λ d. sum t.rows (λ r. bit (shared s d r))) (λ d. bit (not (inside s))) (λ d m. one d m ∙ sym (bit_one (ap not f))))
          where
            one : (d : ℕ) → d < t.corners → sum t.rows (λ r. bit (shared s d r)) ≡ 1
            one d m =
                let o = across_is paired s d l m in
                one_count t.rows (shared s d) (record {
                  one = o.other;
                  below = o.below;
                  is = and_both (ap not (ne_eqb o.other s o.differs)) ((side_reads t s d o.other).1 o.is);
                  only = λ k n q. o.only k n ((side_reads t s d k).0 (and_second (not (eqb k s)) (side t s d k) q))
                      (eqb-false k s (not-true (eqb k s) (and_first (not (eqb k s)) (side t s d k) q)));
                })

    outside_count : sum t.rows (λ r. sum t.corners (λ c. bit (listed r c))) ≤ sum t.rows (λ s. sum t.corners (λ c. bit (not (inside s))))
    outside_count =
        le_trans
        (sum_le t.rows (λ r. sum t.corners (λ c. bit (listed r c))) (λ r. sum t.corners (λ c. sum t.rows (λ s. bit (outside_of r c s)))) (λ r l.
        sum_le t.corners (λ c. bit (listed r c)) (λ c. sum t.rows (λ s. bit (outside_of r c s))) (λ c m. listed_outside r c l m)))
        (le_trans (le_of_eq turned) (sum_le t.rows (λ s. sum t.rows (λ r. sum t.corners (λ c. bit (outside_of r c s)))) (λ s. sum t.corners (λ c. bit (not (inside s)))) outside_of_row))
      where
        turned : sum t.rows (λ r. sum t.corners (λ c. sum t.rows (λ s. bit (outside_of r c s)))) ≡ sum t.rows (λ s. sum t.rows (λ r. sum t.corners (λ c. bit (outside_of r c s))))
        turned =
            sum_same t.rows (λ r. sum t.corners (λ c. sum t.rows (λ s. bit (outside_of r c s)))) (λ r. sum t.rows (λ s. sum t.corners (λ c. bit (outside_of r c s))))
            (λ r _. sum_swap t.corners t.rows (λ c s. bit (outside_of r c s)))
            ∙ sum_swap t.rows t.rows (λ r s. sum t.corners (λ c. bit (outside_of r c s)))

    inside_count : sum t.rows (λ r. sum t.corners (λ c. bit (listed r c))) ≤ sum t.rows (λ r. sum t.corners (λ c. bit (inside r)))
    unfolding listed
    inside_count =
        sum_le t.rows (λ r. sum t.corners (λ c. bit (listed r c))) (λ r. sum t.corners (λ c. bit (inside r))) (λ r _.
        sum_le t.corners (λ c. bit (listed r c)) (λ c. bit (inside r)) (λ c _. bit_le (and_first (inside r) (on_skin t inside r c))))

    all_triangles : sum t.rows (λ r. sum t.corners (λ c. bit (inside r))) + sum t.rows (λ r. sum t.corners (λ c. bit (not (inside r)))) ≡ t.rows * t.corners
    all_triangles =
        sym (sum_add t.rows (λ r. sum t.corners (λ c. bit (inside r))) (λ r. sum t.corners (λ c. bit (not (inside r)))))
        ∙ sum_same t.rows (λ r. sum t.corners (λ c. bit (inside r)) + sum t.corners (λ c. bit (not (inside r)))) (λ r. t.corners) (λ r _.
        sym (sum_add t.corners (λ c. bit (inside r)) (λ c. bit (not (inside r))))
        ∙ sum_same t.corners (λ c. bit (inside r) + bit (not (inside r))) (λ c. 1) (λ c _. either (inside r))
        ∙ sum_const t.corners 1 ∙ mul-one t.corners)
        ∙ sum_const t.rows t.corners
      where
        either : (b : Bool) → bit b + bit (not b) ≡ 1
        either true = rw (bit_one {b = true} refl, bit_zero {b = false} refl)
        either false = rw (bit_one {b = true} refl, bit_zero {b = false} refl)

    -- twice the skin is at most the triangles of all rows
    skin_half : 2 * length (skin t inside) ≤ t.rows * t.corners
    skin_half = rw (skin_length (triangle t)) (omega (arith, inside_count, outside_count, all_triangles))

    -- at most 2N triangles
    pub at_most_2_n : t.corners ≡ 4 → length (skin t inside) ≤ 2 * t.rows
    at_most_2_n four = omega (arith, subst (λ (n : ℕ). 2 * length (skin t inside) ≤ t.rows * n) four skin_half)

-- ---- the words that the skin takes

-- a triangle of a row of four corners has three ids
pub triangle_length : (t : Table) → t.corners ≡ 4 → (r c : ℕ) → c < 4 → length (triangle t r c) ≡ 3
unfolding triangle facet
triangle_length t four r c l =
    length-map (facet t.corners c) (t.id r) ∙ pick_length t.corners (λ k. not (eqb k c)) ∙ ap (λ (n : ℕ). count n (λ k. not (eqb k c))) four ∙ three
  where
    one : count 4 (λ k. eqb k c) ≡ 1
    one = one_count 4 (λ k. eqb k c) (record { one = c; below = l; is = eq-eqb c c refl; only = λ k _ e. eqb-true k c e })

    three : count 4 (λ k. not (eqb k c)) ≡ 3
    three = omega (arith, count_not 4 (λ k. eqb k c), one)

-- the members of the skin list are the skin triangles of the inside rows, as their ids are listed
pub record ListedAs (t : Table) (In : ℕ → Type 0) (ids : ℕ → ℕ → List ℕ) (x : List ℕ) : Type 0 where
  pub row : ℕ
  pub corner : ℕ
  pub row_below : row < t.rows
  pub corner_below : corner < t.corners
  pub row_inside : In row
  pub on_skin_lem : OnSkin t In row corner
  pub ids_are : x ≡ ids row corner

abbrev pub Listed : Table → (ℕ → Type 0) → List ℕ → Type 0
Listed t In = ListedAs t In (triangle t)

pub skin_listed : (t : Table) (inside : ℕ → Bool) (ids : ℕ → ℕ → List ℕ) {In : ℕ → Type 0} → ((s : ℕ) → (inside s ≡ true) ↔ In s)
    → (x : List ℕ) → Among x (skin_as t inside ids) ↔ ListedAs t In ids x
unfolding skin_as skin_of
skin_listed t inside ids told x = (
  λ m.
      let (r, l, i) = gather_in t.rows (skin_of t inside ids) x m in
      let (c, k, j) = gather_in t.corners (λ c. only (inside r && on_skin t inside r c) (ids r c)) x i in
      let (e, q) = only_in (inside r && on_skin t inside r c) (ids r c) x j in
      record {
        row = r;
        corner = c;
        row_below = l;
        corner_below = k;
        row_inside = (told r).0 (and_first (inside r) (on_skin t inside r c) e);
        on_skin_lem = (skin_reads t inside told r c).0 (and_second (inside r) (on_skin t inside r c) e);
        ids_are = q;
      },
  λ y.
      in_gather t.rows (skin_of t inside ids) x y.row y.row_below
      (in_gather t.corners (λ c. only (inside y.row && on_skin t inside y.row c) (ids y.row c)) x y.corner y.corner_below
      (Memᴰ.cast y.ids_are (in_only (inside y.row && on_skin t inside y.row y.corner) (ids y.row y.corner) (and_both ((told y.row).1 y.row_inside) ((skin_reads t inside told y.row y.corner).1 y.on_skin_lem))))),
)

threes : (xs : List (List ℕ)) → ((x : List ℕ) → Among x xs → length x ≡ 3) → length (flatten xs) ≡ 3 * length xs
unfolding flatten
threes [] each = refl
threes (x ∷ xs) each =
    length-append x (flatten xs) ∙ omega (arith, each x (Memᴰ.head refl), threes xs (λ y m. each y (Memᴰ.tail m)))

-- so the skin takes three words for each triangle, in whatever order its ids are listed
pub skin_words : (t : Table) (inside : ℕ → Bool) (ids : ℕ → ℕ → List ℕ) → ((r c : ℕ) → c < t.corners → length (ids r c) ≡ 3)
    → length (flatten (skin_as t inside ids)) ≡ 3 * length (skin_as t inside ids)
skin_words t inside ids three =
    threes (skin_as t inside ids) (λ x m. let y = (skin_listed t inside ids (as_tested inside) x).0 m in ap length y.ids_are ∙ three y.row y.corner y.corner_below)

-- and 6N words hold it
pub skin_fits : (t : Table) (inside : ℕ → Bool) (ids : ℕ → ℕ → List ℕ) → ((r c : ℕ) → c < t.corners → length (ids r c) ≡ 3) → {id_count : ℕ} → Paired t id_count
    → t.corners ≡ 4 → length (flatten (skin_as t inside ids)) ≤ 6 * t.rows
skin_fits t inside ids three paired four =
    omega (arith, skin_words t inside ids three, skin_same_length t inside ids, at_most_2_n t inside paired four)

-- ---- each triangle stands once

module _ (t : Table) (four : t.corners ≡ 4) (r c : ℕ) where
  -- the ids of a triangle are those of its corners
  pub triangle_holds : (k : ℕ) → k < 4 → k ≢ c → Among (t.id r k) (triangle t r c)
  unfolding triangle facet
  triangle_holds k l ne = Memᴰ.map (t.id r) (in_pick t.corners (λ k. not (eqb k c)) k (rw four l) (ap not (ne_eqb k c ne)))

  pub holds_triangle : (u : ℕ) → Among u (triangle t r c) → (k : ℕ) × (k < 4) × (k ≢ c) × (t.id r k ≡ u)
  unfolding triangle facet
  holds_triangle u m =
      let (k, i, e) = Memᴰ.of_map (t.id r) (pick t.corners (λ k. not (eqb k c))) m in
      let (l, p) = pick_in t.corners (λ k. not (eqb k c)) k i in
      (k, subst (λ (n : ℕ). k < n) four l, eqb-false k c (not-true (eqb k c) p), e)

-- place 4r + c is the triangle of row r that leaves out corner c
abbrev pub triangle_at : Table → ℕ → List ℕ
triangle_at t p = triangle t (p / 4) (p % 4)

-- it is listed there
abbrev pub listed_at : Table → (ℕ → Bool) → ℕ → Bool
listed_at t inside p = inside (p / 4) && on_skin t inside (p / 4) (p % 4)

-- the skin list goes by place
pub skin_by_place : (t : Table) (inside : ℕ → Bool) (ids : ℕ → ℕ → List ℕ) → t.corners ≡ 4
    → skin_as t inside ids ≡ gather (4 * t.rows) (λ p. only (listed_at t inside p) (ids (p / 4) (p % 4)))
unfolding skin_as skin_of
skin_by_place t inside ids four =
    ap (λ (n : ℕ). gather t.rows (λ r. gather n (λ c. only (inside r && on_skin t inside r c) (ids r c)))) four
    ∙ gather_same t.rows (λ r. gather 4 (λ c. only (inside r && on_skin t inside r c) (ids r c)))
    (λ r. gather 4 (λ e. only (listed_at t inside (4 * r + e)) (ids ((4 * r + e) / 4) ((4 * r + e) % 4)))) (λ r _.
    gather_same 4 (λ c. only (inside r && on_skin t inside r c) (ids r c)) (λ e. only (listed_at t inside (4 * r + e)) (ids ((4 * r + e) / 4) ((4 * r + e) % 4)))
    (λ c l. rw (row_of {m = 4} (lit< tt) r c l, within_row {m = 4} (lit< tt) r c l)))
    ∙ sym (gather_blocks 4 t.rows (λ p. only (listed_at t inside p) (ids (p / 4) (p % 4))))

module _ (t : Table) (inside : ℕ → Bool) {id_count : ℕ} (paired : Paired t id_count) (four : t.corners ≡ 4) where
  -- two inside rows have no skin triangle in common, and no row has one twice
  one_place : (r c s d : ℕ) → r < t.rows → c < 4 → s < t.rows → d < 4 → (inside r && on_skin t inside r c) ≡ true → (inside s && on_skin t inside s d) ≡ true
      → triangle t r c ≡ triangle t s d → (r ≡ s) × (c ≡ d)
  one_place r c s d lr lc ls ld er es e = (row, ⊎_elim (λ same. same) (λ ne. absurd (twice ne)) (same_or_not c d))
    where
      held : Side t r c s
      held k l ne = let (j, lj, _, q) = holds_triangle t four s d (t.id r k) (subst (λ (xs : List ℕ). Among (t.id r k) xs) e (triangle_holds t four r c k (rw four at l) ne)) in (j, subst (λ (n : ℕ). j < n) (sym four) lj, q)

      row : r ≡ s
      row =
          let one = (skin_reads t inside (as_tested inside) r c).0 (and_second (inside r) (on_skin t inside r c) er) in
          one.only r lr (and_first (inside r) (on_skin t inside r c) er, side_self t r c) ∙ sym (one.only s ls (and_first (inside s) (on_skin t inside s d) es, held))

      twice : c ≢ d → ⊥
      twice ne =
          let (k, lk, stays, q) = holds_triangle t four s d (t.id r d) (subst (λ (xs : List ℕ). Among (t.id r d) xs) e (triangle_holds t four r c d ld (Ne-symm ne))) in
          stays (one_corner t (paired.rising s ls) k d (subst (λ (n : ℕ). k < n) (sym four) lk) (rw four ld) (q ∙ ap (λ (x : ℕ). t.id x d) row))

  -- no triangle of the skin list stands twice
  pub skin_once : Distinct (skin t inside)
  skin_once =
      subst (λ (xs : List (List ℕ)). Distinct xs) (sym (skin_by_place t inside (triangle t) four))
      (gathered_once (4 * t.rows) (listed_at t inside) (triangle_at t) (λ p q lp lq ep eq e.
      let (row, corner) = one_place (p / 4) (p % 4) (q / 4) (q % 4) (row_below {m = 4} (lit< tt) t.rows p lp) (mod-lt p (lit< tt)) (row_below {m = 4} (lit< tt) t.rows q lq) (mod-lt q (lit< tt)) ep eq e in
      omega (arith, div-add-mod p 4, div-add-mod q 4, row, corner)))
