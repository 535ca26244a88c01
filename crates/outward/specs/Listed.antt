-- The skin list by its places, 4r + c for the triangle of row r that leaves out corner c, and by its words, three to a triangle.
use Rattle.std.specs.Prelude.{◌≡◌, refl, ◌⊎◌, Bool, ℕ, zero, suc, ◌+◌, ◌*◌, ◌/◌, ◌%◌, ◌<◌, length}
use Rattle.std.proofs.Math.Path.{sym}
use Rattle.std.proofs.Common.{ap, ◌∙◌, subst, subst₂, ⊎_elim, not-suc-le-zero, le_of_suc-le-suc, zero-lt-suc, arith, lit<, get_or-append-add}
use Rattle.std.proofs.Math.Bool.{true}
use Rattle.std.proofs.Math.Option.{Option, some}
use mathlib.Core.List.Memᴰ
use mathlib.Core.List.{List, [], ◌∷◌, ◌++◌, map, flatten, append_assoc}
use Rattle.std.proofs.Math.Nat.{mod-lt, div-add-mod}
use Rattle.std.proofs.Math.ListN.{get_or, get_or-append}
use Rattle.std.proofs.lemmas.List.{length-map}
use Rattle.rules.specs.Below.{pick}
use Rattle.rules.specs.Table.{Table}
use Rattle.rules.specs.Skin.{on_skin, triangle, skin_as, skin}
use Rattle.rules.specs.Proposals.{inside_in}
use Rattle.rules.specs.Points.{Point}
use Rattle.rules.specs.Outward.{exchanged, triangle_as}
use Rattle.rules.specs.Laws.Truth.{and_first, and_second, and_both}
use Rattle.rules.specs.Laws.Lists.{Among, among_at, in_pick, pick_in, Distinct, pick_distinct, map_pick}
use Rattle.rules.specs.Laws.Places.{row_of, within_row, row_below, place_below}
use Rattle.rules.specs.Reading.Room.{listed_at, skin_by_place}
use Rattle.rules.specs.Reading.Outward.{AsRising, listed_id, either_way}

-- ---- numbers in a list

at_among : (xs : List ℕ) (u : ℕ) → Among u xs → (k : ℕ) × (k < length xs) × (get_or xs k 0 ≡ u)
at_among [] u m = absurd (Memᴰ.not-nil m)
at_among (x ∷ xs) u m = ⊎_elim (λ (e : u ≡ x). (0, zero-lt-suc (length xs), sym e)) (λ n. let (k, l, e) = at_among xs u n in (suc k, omega arith, e)) (Memᴰ.cases_cons m)

distinct_at : (xs : List ℕ) → Distinct xs → (j k : ℕ) → j < length xs → k < length xs → get_or xs j 0 ≡ get_or xs k 0 → j ≡ k
distinct_at [] d j k lj lk e = absurd (not-suc-le-zero lj)
distinct_at (x ∷ xs) d zero zero lj lk e = refl
distinct_at (x ∷ xs) (new, d) zero (suc k) lj lk e = absurd (new (subst (λ (u : ℕ). Among u xs) (sym e) (among_at xs k (le_of_suc-le-suc lk))))
distinct_at (x ∷ xs) (new, d) (suc j) zero lj lk e = absurd (new (subst (λ (u : ℕ). Among u xs) e (among_at xs j (le_of_suc-le-suc lj))))
distinct_at (x ∷ xs) (new, d) (suc j) (suc k) lj lk e = ap suc (distinct_at xs d j k (le_of_suc-le-suc lj) (le_of_suc-le-suc lk) e)

-- word i of triangle k, where each triangle takes three words
word_at : (f : ℕ → List ℕ) → ((p : ℕ) → length (f p) ≡ 3) → (rest ps : List ℕ) (k i : ℕ) → k < length ps → i < 3
    → get_or (flatten (map f ps) ++ rest) (3 * k + i) 0 ≡ get_or (f (get_or ps k 0)) i 0
unfolding flatten
word_at f three rest [] k i l m = absurd (not-suc-le-zero l)
word_at f three rest (p ∷ ps) zero i l m =
    let first : 3 * 0 + i ≡ i = omega arith in
    rw (append_assoc (f p) (flatten (map f ps)) rest, first) (get_or-append (f p) (flatten (map f ps) ++ rest) 0 i (omega (arith, three p)))
word_at f three rest (p ∷ ps) (suc k) i l m =
    let later : 3 * suc k + i ≡ length (f p) + (3 * k + i) = omega (arith, three p) in
    rw (append_assoc (f p) (flatten (map f ps)) rest, later, get_or-append-add (f p) (flatten (map f ps) ++ rest) (3 * k + i) 0)
    (word_at f three rest ps k i (le_of_suc-le-suc l) m)

-- ---- places

-- the places of the triangles that are listed, in order
unfoldable pub places : Table → (ℕ → Bool) → List ℕ
places t inside = pick (4 * t.rows) (listed_at t inside)

by_place : (t : Table) → t.corners ≡ 4 → (inside : ℕ → Bool) (ids : ℕ → ℕ → List ℕ) → skin_as t inside ids ≡ map (λ p. ids (p / 4) (p % 4)) (places t inside)
unfolding places
by_place t four inside ids = skin_by_place t inside ids four ∙ sym (map_pick (4 * t.rows) (listed_at t inside) (λ p. ids (p / 4) (p % 4)))

-- ---- triangles in the order asked for

module _ (t : Table) (outward : Bool) (points : Option (ℕ → Point)) where
  module _ (four : t.corners ≡ 4) where
    -- the list is the rising one with, in some of its triangles, the last two ids exchanged
    pub as_rising : (inside : ℕ → Bool) → AsRising (skin_as t inside (triangle_as t outward points)) (skin t inside)
    as_rising inside =
        rw (by_place t four inside (triangle_as t outward points), by_place t four inside (triangle t)) (record {
          same_number = length-map (places t inside) _ ∙ sym (length-map (places t inside) _);
          each = exchanged_each (λ p. triangle_as t outward points (p / 4) (p % 4)) (λ p. triangle t (p / 4) (p % 4)) (λ p. either_way t outward points (p / 4) (p % 4)) (places t inside);
        })
      where
        exchanged_each : (f g : ℕ → List ℕ) → ((p : ℕ) → (f p ≡ g p) ⊎ (f p ≡ exchanged (g p))) → (ps : List ℕ) (k : ℕ) → k < length (map g ps)
            → (get_or (map f ps) k [] ≡ get_or (map g ps) k []) ⊎ (get_or (map f ps) k [] ≡ exchanged (get_or (map g ps) k []))
        exchanged_each f g e [] k l = absurd (not-suc-le-zero l)
        exchanged_each f g e (p ∷ ps) zero l = e p
        exchanged_each f g e (p ∷ ps) (suc k) l = exchanged_each f g e ps k (le_of_suc-le-suc l)

-- the skin of these marks listed outward, and its words with what stands behind them
abbrev pub outward_list : Table → (ℕ → Point) → List ℕ → List (List ℕ)
outward_list t at marks = skin_as t (inside_in marks) (triangle_as t true (some at))

abbrev pub outward_words : Table → (ℕ → Point) → List ℕ → List ℕ → List ℕ
outward_words t at marks rest = flatten (outward_list t at marks) ++ rest

-- ---- triangle k of the list

module _ (t : Table) (inside : ℕ → Bool) where
  -- triangle k of the list is that of inside row r that leaves out corner c
  pub record Stands (k r c : ℕ) : Type 0 where
    pub number_below : k < length (places t inside)
    pub row_below : r < t.rows
    pub corner_below : c < 4
    pub row_inside : inside r ≡ true
    pub on_skin_lem : on_skin t inside r c ≡ true
    pub place_is : get_or (places t inside) k 0 ≡ 4 * r + c

  -- each is one of an inside row
  pub stands : (k : ℕ) → k < length (places t inside) → (r : ℕ) × (c : ℕ) × Stands k r c
  unfolding places
  stands k l =
      let p = get_or (places t inside) k 0 in
      let (below, listed) = pick_in (4 * t.rows) (listed_at t inside) p (among_at (places t inside) k l) in (
        p / 4,
        p % 4,
        record {
          number_below = l;
          row_below = row_below {m = 4} (lit< tt) t.rows p below;
          corner_below = mod-lt p (lit< tt);
          row_inside = and_first (inside (p / 4)) (on_skin t inside (p / 4) (p % 4)) listed;
          on_skin_lem = and_second (inside (p / 4)) (on_skin t inside (p / 4) (p % 4)) listed;
          place_is = omega (arith, div-add-mod p 4);
        },
      )

  -- each skin triangle of an inside row is listed
  pub stands_at : {r c : ℕ} → r < t.rows → c < 4 → inside r ≡ true → on_skin t inside r c ≡ true → (k : ℕ) × Stands k r c
  unfolding places
  stands_at {r} {c} lr lc m o =
      let here : listed_at t inside (4 * r + c) ≡ true = rw (row_of {m = 4} (lit< tt) r c lc, within_row {m = 4} (lit< tt) r c lc) (and_both m o) in
      let among = in_pick (4 * t.rows) (listed_at t inside) (4 * r + c) (place_below {m = 4} (lit< tt) t.rows r c lr lc) here in
      let (k, l, e) = at_among (places t inside) (4 * r + c) among in
      (k, record { number_below = l; row_below = lr; corner_below = lc; row_inside = m; on_skin_lem = o; place_is = e })

  -- and once
  pub stands_once : {k k' r c : ℕ} → Stands k r c → Stands k' r c → k ≡ k'
  unfolding places
  stands_once {k} {k'} s s' =
      distinct_at (places t inside) (pick_distinct (4 * t.rows) (listed_at t inside)) k k' s.number_below s'.number_below (s.place_is ∙ sym s'.place_is)

module _ (t : Table) (four : t.corners ≡ 4) (inside : ℕ → Bool) (ids : ℕ → ℕ → List ℕ) where
  pub number_listed : length (skin_as t inside ids) ≡ length (places t inside)
  number_listed = ap length (by_place t four inside ids) ∙ length-map (places t inside) _

  module _ (three : (r c : ℕ) → c < t.corners → length (ids r c) ≡ 3) (rest : List ℕ) {k r c : ℕ} (s : Stands t inside k r c) where
    abbrev words : List ℕ
    words = flatten (skin_as t inside ids) ++ rest

    word_is : (i : ℕ) → i < 3 → listed_id words k i ≡ get_or (ids r c) i 0
    word_is i l =
        ap (λ (xs : List (List ℕ)). get_or (flatten xs ++ rest) (3 * k + i) 0) (by_place t four inside ids)
        ∙ word_at (λ p. ids (p / 4) (p % 4)) (λ p. three (p / 4) (p % 4) (rw four (mod-lt p (lit< tt)))) rest (places t inside) k i s.number_below l
        ∙ rw (s.place_is, row_of {m = 4} (lit< tt) r c s.corner_below, within_row {m = 4} (lit< tt) r c s.corner_below)

    -- what holds of its ids holds of its words
    pub at_words : (P : ℕ → ℕ → ℕ → Type 0) → P (get_or (ids r c) 0 0) (get_or (ids r c) 1 0) (get_or (ids r c) 2 0) → P (listed_id words k 0) (listed_id words k 1) (listed_id words k 2)
    at_words P p =
        subst (λ (a : ℕ). P a (listed_id words k 1) (listed_id words k 2)) (sym (word_is 0 (lit< tt)))
        (subst₂ (λ (b e : ℕ). P (get_or (ids r c) 0 0) b e) (sym (word_is 1 (lit< tt))) (sym (word_is 2 (lit< tt))) p)
