-- Laws of the fixed tables: read off entry by entry, or one test that antt computes over the whole table and a lemma that turns it into
-- the rule at each entry.
use Rattle.std.specs.Prelude.{◌≡◌, refl, ◌⊎◌, ◌↔◌, ◌≢◌, Bool, true, false, not, ◌&&◌, ◌||◌, List, [], ◌∷◌, ℕ, zero, suc, ◌-◌, ◌<◌, eqb, ltb, get_or}
use Rattle.std.proofs.Common.{sym, ap, ◌∙◌, inl, inr, ⊎_elim, lt_trans, arith, lit<, eqb-true, eq-eqb, ne_eqb, ltb-true, lt-ltb}
use mathlib.Core.List.Memᴰ
use Rattle.std.proofs.lemmas.Bool.{eqb-false, not-true}
use Rattle.rules.specs.Below.{all, bit, sum, count, gather, tabulate, only, pick}
use Rattle.rules.specs.Shape.{facet, triangle_table, edge_table, opposite_table}
use Rattle.rules.specs.Laws.Truth.{not_both, and_first, and_second, or_either, or_first, or_second, or_no_first, or_no_second, same_or_not}
use Rattle.rules.specs.Laws.Below.{all_each}
use Rattle.rules.specs.Laws.Count.{ExactlyOne, ExactlyTwo, one_map, two_map, count_one, count_two}
use Rattle.rules.specs.Laws.Lists.{Among}

-- ---- tests on lists

-- every member passes
abbrev every {ℓ} : {A : Type ℓ} → (A → Bool) → List A → Bool
every p [] = true
every p (x ∷ xs) = p x && every p xs

every_among {ℓ} : {A : Type ℓ} (p : A → Bool) (xs : List A) → every p xs ≡ true → (x : A) → Among x xs → p x ≡ true
every_among p [] t x m = absurd (Memᴰ.not-nil m)
every_among p (y ∷ xs) t x m =
    ⊎_elim (λ e. ap p e ∙ and_first (p y) (every p xs) t) (λ i. every_among p xs (and_second (p y) (every p xs) t) x i) (Memᴰ.cases_cons m)

-- c is among the corners of the face
abbrev on_face : ℕ → List ℕ → Bool
on_face c [] = false
on_face c (k ∷ face) = eqb c k || on_face c face

on_face_lem : (c : ℕ) (face : List ℕ) → Among c face → on_face c face ≡ true
on_face_lem c [] m = absurd (Memᴰ.not-nil m)
on_face_lem c (k ∷ face) m =
    ⊎_elim (λ e. or_first (on_face c face) (eq-eqb c k e)) (λ i. or_second (eqb c k) (on_face_lem c face i)) (Memᴰ.cases_cons m)

abbrev same_face : List ℕ → List ℕ → Bool
same_face [] [] = true
same_face [] (b ∷ bs) = false
same_face (a ∷ as') [] = false
same_face (a ∷ as') (b ∷ bs) = eqb a b && same_face as' bs

same_face_lem : (xs ys : List ℕ) → same_face xs ys ≡ true → xs ≡ ys
same_face_lem [] [] t = refl
same_face_lem [] (b ∷ bs) t = absurd (not_both t refl)
same_face_lem (a ∷ as') [] t = absurd (not_both t refl)
same_face_lem (a ∷ as') (b ∷ bs) t =
    let first : a ≡ b = eqb-true a b (and_first (eqb a b) (same_face as' bs) t) in
    let rest : as' ≡ bs = same_face_lem as' bs (and_second (eqb a b) (same_face as' bs) t) in
    cc

abbrev in_faces : List ℕ → List (List ℕ) → Bool
in_faces face [] = false
in_faces face (x ∷ xs) = same_face face x || in_faces face xs

in_faces_lem : (face : List ℕ) (faces : List (List ℕ)) → in_faces face faces ≡ true → Among face faces
in_faces_lem face [] t = absurd (not_both t refl)
in_faces_lem face (x ∷ xs) t =
    ⊎_elim (λ e. Memᴰ.head (same_face_lem face x e)) (λ i. Memᴰ.tail (in_faces_lem face xs i)) (or_either (same_face face x) (in_faces face xs) t)

-- ---- triangles

-- at four corners `facet` is document 01's table
pub facet_table : tabulate 4 (facet 4) ≡ triangle_table
unfolding tabulate gather facet pick only triangle_table
facet_table = refl

-- three corners, each other than c
abbrev pub ThreeOthers : ℕ → ℕ → ℕ → ℕ → Type 0
ThreeOthers c i j k = (i ≢ c) × (j ≢ c) × (k ≢ c)

-- the corners of a triangle rise
pub facet_three : (c : ℕ) → c < 4 → (i : ℕ) × (j : ℕ) × (k : ℕ) × (i < j) × (j < k) × (k < 4) × ThreeOthers c i j k × (facet 4 c ≡ i ∷ j ∷ k ∷ [])
unfolding facet pick gather only
facet_three zero l = (1, 2, 3, lit< tt, lit< tt, lit< tt, (λ e. omega arith, λ e. omega arith, λ e. omega arith), refl)
facet_three (suc zero) l = (0, 2, 3, lit< tt, lit< tt, lit< tt, (λ e. omega arith, λ e. omega arith, λ e. omega arith), refl)
facet_three (suc (suc zero)) l = (0, 1, 3, lit< tt, lit< tt, lit< tt, (λ e. omega arith, λ e. omega arith, λ e. omega arith), refl)
facet_three (suc (suc (suc zero))) l = (0, 1, 2, lit< tt, lit< tt, lit< tt, (λ e. omega arith, λ e. omega arith, λ e. omega arith), refl)
facet_three (suc (suc (suc (suc c)))) l = absurd (omega arith)

-- and three that rise and leave out c are these
pub three_facet : (c i j k : ℕ) → c < 4 → i < j → j < k → k < 4 → i ≢ c → j ≢ c → k ≢ c → facet 4 c ≡ i ∷ j ∷ k ∷ []
unfolding facet pick gather only
three_facet zero i j k lc ij jk k4 ni nj nk = let e : 1 ≡ i = omega (arith, ni) in let f : 2 ≡ j = omega arith in let g : 3 ≡ k = omega arith in rw (e, f, g)
three_facet (suc zero) i j k lc ij jk k4 ni nj nk = let e : 0 ≡ i = omega (arith, ni) in let f : 2 ≡ j = omega (arith, nj) in let g : 3 ≡ k = omega arith in rw (e, f, g)
three_facet (suc (suc zero)) i j k lc ij jk k4 ni nj nk = let e : 0 ≡ i = omega arith in let f : 1 ≡ j = omega (arith, nj) in let g : 3 ≡ k = omega (arith, nk) in rw (e, f, g)
three_facet (suc (suc (suc zero))) i j k lc ij jk k4 ni nj nk = let e : 0 ≡ i = omega (arith, nk) in let f : 1 ≡ j = omega (arith, nk) in let g : 2 ≡ k = omega (arith, nk) in rw (e, f, g)
three_facet (suc (suc (suc (suc c)))) i j k lc ij jk k4 ni nj nk = absurd (omega arith)

-- ---- edges

-- an edge is two corners below four, rising
abbrev is_edge : List ℕ → Bool
is_edge [] = false
is_edge (i ∷ []) = false
is_edge (i ∷ j ∷ []) = ltb i j && ltb j 4
is_edge (i ∷ j ∷ k ∷ rest) = false

pub table_edge : (face : List ℕ) → Among face edge_table → (i : ℕ) × (j : ℕ) × (i < j) × (j < 4) × (face ≡ i ∷ j ∷ [])
unfolding edge_table
table_edge face m = ends face (every_among is_edge edge_table refl face m)
  where
    ends : (face : List ℕ) → is_edge face ≡ true → (i : ℕ) × (j : ℕ) × (i < j) × (j < 4) × (face ≡ i ∷ j ∷ [])
    ends [] t = absurd (not_both t refl)
    ends (i ∷ []) t = absurd (not_both t refl)
    ends (i ∷ j ∷ []) t = (i, j, ltb-true i j (and_first (ltb i j) (ltb j 4) t), ltb-true j 4 (and_second (ltb i j) (ltb j 4) t), refl)
    ends (i ∷ j ∷ k ∷ rest) t = absurd (not_both t refl)

pub edge_in_table : (i j : ℕ) → i < j → j < 4 → Among (i ∷ j ∷ []) edge_table
unfolding edge_table all
edge_in_table i j l m =
    in_faces_lem (i ∷ j ∷ []) edge_table
    (⊎_elim (λ off. absurd (not_both (lt-ltb i j l) (not-true (ltb i j) off))) (λ t. t) (or_either (not (ltb i j)) (in_faces (i ∷ j ∷ []) edge_table) tested))
  where
    test : ℕ → ℕ → Bool
    test i j = not (ltb i j) || in_faces (i ∷ j ∷ []) edge_table

    tested : test i j ≡ true
    tested = all_each 4 (test i) (all_each 4 (λ i. all 4 (test i)) refl i (lt_trans l m)) j m

-- ---- opposite edges

unfoldable pub edge_at : ℕ → List ℕ
edge_at k = get_or edge_table k []

unfoldable pub opposite_at : ℕ → List ℕ
opposite_at k = get_or opposite_table k []

abbrev apart : List ℕ → List ℕ → Bool
apart face other = every (λ c. not (on_face c other)) face

opposite_test : ℕ → Bool
opposite_test k = same_face (opposite_at k) (edge_at (5 - k)) && (same_face (opposite_at (5 - k)) (edge_at k) && apart (edge_at k) (opposite_at k))

opposites_pass : all 6 opposite_test ≡ true
unfolding all opposite_test edge_at opposite_at edge_table opposite_table
opposites_pass = refl

module _ (k : ℕ) (l : k < 6) where
  later_tests : same_face (opposite_at (5 - k)) (edge_at k) && apart (edge_at k) (opposite_at k) ≡ true
  unfolding opposite_test
  later_tests =
      and_second (same_face (opposite_at k) (edge_at (5 - k))) (same_face (opposite_at (5 - k)) (edge_at k) && apart (edge_at k) (opposite_at k))
      (all_each 6 opposite_test opposites_pass k l)

  -- the opposite of edge 5 - k is edge k
  pub opposite_of_opposite : opposite_at (5 - k) ≡ edge_at k
  opposite_of_opposite =
      same_face_lem (opposite_at (5 - k)) (edge_at k) (and_first (same_face (opposite_at (5 - k)) (edge_at k)) (apart (edge_at k) (opposite_at k)) later_tests)

  -- an edge and its opposite share no corner
  pub opposite_apart : (c : ℕ) → Among c (edge_at k) → Among c (opposite_at k) → ⊥
  opposite_apart c m n =
      not_both (on_face_lem c (opposite_at k) n)
      (not-true (on_face c (opposite_at k)) (every_among (λ c. not (on_face c (opposite_at k))) (edge_at k)
      (and_second (same_face (opposite_at (5 - k)) (edge_at k)) (apart (edge_at k) (opposite_at k)) later_tests) c m))

-- ---- two triangles of a row

-- the edge of corners i and j is in the triangle that leaves out corner c
abbrev pub InTriangle : ℕ → ℕ → ℕ → Type 0
InTriangle c i j = (i ≢ c) × (j ≢ c)

-- The edge that is in neither of the triangles that leave out c and d: the one with the corners c and d.
pub in_neither : (c d i j : ℕ) → c ≢ d → i ≢ j
    → ((InTriangle c i j → ⊥) × (InTriangle d i j → ⊥)) ↔ (((i ≡ c) × (j ≡ d)) ⊎ ((i ≡ d) × (j ≡ c)))
in_neither c d i j cd ij = (λ (p, q). both (corner c p) (corner d q), back)
  where
    -- one of its corners is left out
    corner : (c : ℕ) → (InTriangle c i j → ⊥) → (i ≡ c) ⊎ (j ≡ c)
    corner c off = ⊎_elim inl (λ ni. ⊎_elim inr (λ nj. absurd (off (ni, nj))) (same_or_not j c)) (same_or_not i c)

    both : (i ≡ c) ⊎ (j ≡ c) → (i ≡ d) ⊎ (j ≡ d) → ((i ≡ c) × (j ≡ d)) ⊎ ((i ≡ d) × (j ≡ c))
    both (inl e) (inl f) = absurd (cd (sym e ∙ f))
    both (inl e) (inr f) = inl (e, f)
    both (inr e) (inl f) = inr (f, e)
    both (inr e) (inr f) = absurd (cd (sym e ∙ f))

    back : ((i ≡ c) × (j ≡ d)) ⊎ ((i ≡ d) × (j ≡ c)) → (InTriangle c i j → ⊥) × (InTriangle d i j → ⊥)
    back (inl (e, f)) = (λ (n, _). n e, λ (_, n). n f)
    back (inr (e, f)) = (λ (_, n). n f, λ (n, _). n e)

-- ---- the corners that are left

-- m is none of i, j and k
abbrev other_than : ℕ → ℕ → ℕ → ℕ → Bool
other_than i j k m = not (eqb m i || eqb m j || eqb m k)

fourth_test : ℕ → ℕ → ℕ → Bool
fourth_test i j k = eqb i j || (eqb i k || (eqb j k || eqb (count 4 (other_than i j k)) 1))

fourth_passes : all 4 (λ i. all 4 (λ j. all 4 (fourth_test i j))) ≡ true
unfolding all fourth_test count sum bit
fourth_passes = refl

-- three different corners leave one
pub fourth_corner : (i j k : ℕ) → i < 4 → j < 4 → k < 4 → i ≢ j → i ≢ k → j ≢ k → ExactlyOne 4 (λ m. (m ≢ i) × (m ≢ j) × (m ≢ k))
unfolding fourth_test
fourth_corner i j k li lj lk ij ik jk = one_map forth back (count_one 4 (other_than i j k) counted)
  where
    passed : fourth_test i j k ≡ true
    passed =
        all_each 4 (fourth_test i j) (all_each 4 (λ j. all 4 (fourth_test i j)) (all_each 4 (λ i. all 4 (λ j. all 4 (fourth_test i j))) fourth_passes i li) j lj) k lk

    counted : count 4 (other_than i j k) ≡ 1
    counted = eqb-true (count 4 (other_than i j k)) 1 (rw (ne_eqb i j ij, ne_eqb i k ik, ne_eqb j k jk) at passed)

    forth : (m : ℕ) → other_than i j k m ≡ true → (m ≢ i) × (m ≢ j) × (m ≢ k)
    forth m q =
        let none = not-true (eqb m i || eqb m j || eqb m k) q in
        let two = or_no_first (eqb m i || eqb m j) (eqb m k) none in (
          eqb-false m i (or_no_first (eqb m i) (eqb m j) two),
          eqb-false m j (or_no_second (eqb m i) (eqb m j) two),
          eqb-false m k (or_no_second (eqb m i || eqb m j) (eqb m k) none),
        )

    back : (m : ℕ) → (m ≢ i) × (m ≢ j) × (m ≢ k) → other_than i j k m ≡ true
    back m (a, b, c) = rw (ne_eqb m i a, ne_eqb m j b, ne_eqb m k c)

others_test : ℕ → ℕ → Bool
others_test c k = eqb c k || eqb (count 4 (other_than c k k)) 2

others_pass : all 4 (λ c. all 4 (others_test c)) ≡ true
unfolding all others_test count sum bit
others_pass = refl

-- two different corners leave two
pub two_others : (c k : ℕ) → c < 4 → k < 4 → c ≢ k → ExactlyTwo 4 (λ m. (m ≢ c) × (m ≢ k))
unfolding others_test
two_others c k lc lk ne = two_map forth back (count_two 4 (other_than c k k) counted)
  where
    passed : others_test c k ≡ true
    passed = all_each 4 (others_test c) (all_each 4 (λ c. all 4 (others_test c)) others_pass c lc) k lk

    counted : count 4 (other_than c k k) ≡ 2
    counted = eqb-true (count 4 (other_than c k k)) 2 (rw (ne_eqb c k ne) at passed)

    forth : (m : ℕ) → other_than c k k m ≡ true → (m ≢ c) × (m ≢ k)
    forth m q =
        let none = not-true (eqb m c || eqb m k || eqb m k) q in
        (eqb-false m c (or_no_first (eqb m c) (eqb m k) (or_no_first (eqb m c || eqb m k) (eqb m k) none)), eqb-false m k (or_no_second (eqb m c || eqb m k) (eqb m k) none))

    back : (m : ℕ) → (m ≢ c) × (m ≢ k) → other_than c k k m ≡ true
    back m (a, b) = rw (ne_eqb m c a, ne_eqb m k b)
