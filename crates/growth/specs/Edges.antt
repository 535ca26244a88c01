-- The edges of a row by position, and the edge that two skin triangles share.
use Rattle.std.specs.Prelude.{◌≡◌, ◌↔◌, ◌≢◌, Bool, true, false, not, ◌&&◌, ◌||◌, eqb, ltb, get_or, Option, Some, None, IsSome}
use Rattle.std.proofs.Math.Path.{refl}
use Rattle.std.proofs.Common.{sym, ap, ◌∙◌, arith, lit<, eqb-true, eq-eqb, ltb-true}
use Rattle.std.proofs.Math.Logic.{⊎_elim}
use mathlib.Core.List.{List, [], ◌∷◌, flatten}
use Prim.Native.Nat.{ℕ, zero, suc, ◌+◌, ◌*◌, ◌<◌}
use Rattle.std.proofs.lemmas.Bool.{not-true}
use Rattle.rules.specs.Below.{any, all, lowest, bit, sum, count, gather, tabulate, only, pick}
use Rattle.rules.specs.Shape.{triangle_table, edge_table, opposite_table, vertices}
use Rattle.table.specs.Faces.{edges_at, face_corners, corner_of}
use Rattle.values.specs.Places.{place_of}
use Rattle.rules.specs.Laws.Truth.{not_both, and_first, and_second, or_either, not_reads, and_reads, eqb_reads}
use Rattle.rules.specs.Laws.Below.{any_same, all_each, none_any, lowest_none, lowest_is}
use Rattle.rules.specs.Laws.Count.{count_same}
use Rattle.rules.specs.Laws.Lists.{pick_same}

-- corner k of an edge, 0 or 1, and of the edge opposite it
unfoldable pub edge_corner : ℕ → ℕ → ℕ
edge_corner e k = get_or (flatten edge_table) (2 * e + k) 0

unfoldable pub opposite_corner : ℕ → ℕ → ℕ
opposite_corner e k = get_or (flatten opposite_table) (2 * e + k) 0

-- the position of the edge opposite each
unfoldable pub opposite_edge : ℕ → ℕ
opposite_edge e = get_or (5 ∷ 4 ∷ 3 ∷ 2 ∷ 1 ∷ 0 ∷ []) e 0

-- No corner of the edge is left out by a skin triangle: the edge is in each of them. `p c` says that the triangle that leaves out c is on the skin.
unfoldable pub in_both : (ℕ → Bool) → ℕ → Bool
in_both p e = not (p (edge_corner e 0) || p (edge_corner e 1))

-- ---- corners are below four, by a test that antt computes over both tables

below_test : ℕ → ℕ → Bool
below_test e k = ltb (edge_corner e k) 4 && ltb (opposite_corner e k) 4

below_passes : all 6 (λ e. all 2 (below_test e)) ≡ true
unfolding all below_test edge_corner opposite_corner edge_table opposite_table flatten
below_passes = refl

module _ (e k : ℕ) (l : e < 6) (m : k < 2) where
  below : (ltb (edge_corner e k) 4 && ltb (opposite_corner e k) 4) ≡ true
  unfolding below_test
  below = all_each 2 (below_test e) (all_each 6 (λ e. all 2 (below_test e)) below_passes e l) k m

  pub edge_below : edge_corner e k < 4
  edge_below = ltb-true (edge_corner e k) 4 (and_first (ltb (edge_corner e k) 4) (ltb (opposite_corner e k) 4) below)

  pub opposite_below : opposite_corner e k < 4
  opposite_below = ltb-true (opposite_corner e k) 4 (and_second (ltb (edge_corner e k) 4) (ltb (opposite_corner e k) 4) below)

-- ---- the code's table has these edges, and opposite each the one that `rules` names

read_test : ℕ → Bool
read_test e = ltb (opposite_edge e) 6 && all 2 (λ k. eqb (corner_of (edges_at + e) k) (edge_corner e k) && eqb (edge_corner (opposite_edge e) k) (opposite_corner e k))

read_passes : all 6 read_test ≡ true
unfolding all read_test corner_of face_corners triangle_table edge_table vertices tabulate gather opposite_edge edge_corner opposite_corner opposite_table flatten
read_passes = refl

module _ (e : ℕ) (l : e < 6) where
  read : (ltb (opposite_edge e) 6 ≡ true) × (all 2 (λ k. eqb (corner_of (edges_at + e) k) (edge_corner e k) && eqb (edge_corner (opposite_edge e) k) (opposite_corner e k)) ≡ true)
  unfolding read_test
  read = (and_reads (λ t. t, λ t. t) (λ t. t, λ t. t)).0 (all_each 6 read_test read_passes e l)

  pub opposite_edge_below : opposite_edge e < 6
  opposite_edge_below = ltb-true (opposite_edge e) 6 read.0

  module _ (k : ℕ) (m : k < 2) where
    corners_read : (corner_of (edges_at + e) k ≡ edge_corner e k) × (edge_corner (opposite_edge e) k ≡ opposite_corner e k)
    corners_read =
        (and_reads (eqb_reads (corner_of (edges_at + e) k) (edge_corner e k)) (eqb_reads (edge_corner (opposite_edge e) k) (opposite_corner e k))).0
        (all_each 2 (λ k. eqb (corner_of (edges_at + e) k) (edge_corner e k) && eqb (edge_corner (opposite_edge e) k) (opposite_corner e k)) read.1 k m)

    pub edge_corner_read : corner_of (edges_at + e) k ≡ edge_corner e k
    edge_corner_read = corners_read.0

    pub opposite_corner_read : edge_corner (opposite_edge e) k ≡ opposite_corner e k
    opposite_corner_read = corners_read.1

-- ---- an edge and its opposite have no corner in common

apart_test : ℕ → Bool
apart_test e = not (eqb (opposite_corner e 0) (opposite_corner e 1)) && (not (eqb (edge_corner e 0) (opposite_corner e 0)) && not (eqb (edge_corner e 0) (opposite_corner e 1)))

apart_passes : all 6 apart_test ≡ true
unfolding all apart_test edge_corner opposite_corner edge_table opposite_table flatten
apart_passes = refl

pub corners_apart : (e : ℕ) → e < 6 → (opposite_corner e 0 ≢ opposite_corner e 1) × (edge_corner e 0 ≢ opposite_corner e 0) × (edge_corner e 0 ≢ opposite_corner e 1)
unfolding apart_test
corners_apart e l =
    let (ends, (zeroth, first)) =
    (and_reads (differ (opposite_corner e 0) (opposite_corner e 1)) (and_reads (differ (edge_corner e 0) (opposite_corner e 0)) (differ (edge_corner e 0) (opposite_corner e 1)))).0
    (all_each 6 apart_test apart_passes e l)
    in
    (ends, zeroth, first)
  where
    differ : (i j : ℕ) → (not (eqb i j) ≡ true) ↔ (i ≢ j)
    differ i j = not_reads (eqb_reads i j)

-- ---- the edge that is in both of two skin triangles

-- the numbers a and b, and no more
abbrev is_pair : ℕ → ℕ → List ℕ → Bool
is_pair a b [] = false
is_pair a b (x ∷ []) = false
is_pair a b (x ∷ y ∷ []) = eqb x a && eqb y b
is_pair a b (x ∷ y ∷ z ∷ rest) = false

is_pair_lem : (a b : ℕ) (xs : List ℕ) → is_pair a b xs ≡ true → xs ≡ a ∷ b ∷ []
is_pair_lem a b [] t = absurd (not_both t refl)
is_pair_lem a b (x ∷ []) t = absurd (not_both t refl)
is_pair_lem a b (x ∷ y ∷ []) t =
    let first : x ≡ a = eqb-true x a (and_first (eqb x a) (eqb y b) t) in
    let second : y ≡ b = eqb-true y b (and_second (eqb x a) (eqb y b) t) in
    cc
is_pair_lem a b (x ∷ y ∷ z ∷ rest) t = absurd (not_both t refl)

-- which triangles are on the skin, as four truths
four : Bool → Bool → Bool → Bool → ℕ → Bool
four a b c d k = get_or (a ∷ b ∷ c ∷ d ∷ []) k false

-- of two skin triangles one edge is in both, and the edge opposite one that is in both has their left-out corners
shared_test : Bool → Bool → Bool → Bool → Bool
shared_test a b c d =
    let p = four a b c d in
    not (eqb (count 4 p) 2) || (any 6 (in_both p) && all 6 (λ e. not (in_both p e) || is_pair (opposite_corner e 0) (opposite_corner e 1) (pick 4 p)))

either : (Bool → Bool) → Bool
either test = test true && test false

each : (test : Bool → Bool) → either test ≡ true → (b : Bool) → test b ≡ true
unfolding either
each test e true = and_first (test true) (test false) e
each test e false = and_second (test true) (test false) e

shared_passes : either (λ a. either (λ b. either (λ c. either (shared_test a b c)))) ≡ true
unfolding either shared_test four count sum bit any all in_both pick gather only edge_corner opposite_corner edge_table opposite_table flatten
shared_passes = refl

module _ (p : ℕ → Bool) (two : count 4 p ≡ 2) where
  truths : ℕ → Bool
  truths = four (p 0) (p 1) (p 2) (p 3)

  agree : (k : ℕ) → k < 4 → p k ≡ truths k
  unfolding truths four
  agree zero l = refl
  agree (suc zero) l = refl
  agree (suc (suc zero)) l = refl
  agree (suc (suc (suc zero))) l = refl
  agree (suc (suc (suc (suc k)))) l = absurd (omega arith)

  both_agree : (e : ℕ) → e < 6 → in_both p e ≡ in_both truths e
  unfolding in_both
  both_agree e l = rw (agree (edge_corner e 0) (edge_below e 0 l (lit< tt)), agree (edge_corner e 1) (edge_below e 1 l (lit< tt)))

  -- in each skin triangle, so opposite their left-out corners
  fits : ℕ → Bool
  fits e = not (in_both truths e) || is_pair (opposite_corner e 0) (opposite_corner e 1) (pick 4 truths)

  tested : (any 6 (in_both truths) && all 6 fits) ≡ true
  unfolding shared_test fits truths
  tested =
      ⊎_elim (λ off. absurd (not_both (eq-eqb (count 4 truths) 2 (sym (count_same 4 p truths agree) ∙ two)) (not-true (eqb (count 4 truths) 2) off)))
      (λ t. t) (or_either (not (eqb (count 4 truths) 2)) (any 6 (in_both truths) && all 6 fits) (each (shared_test (p 0) (p 1) (p 2))
      (each (λ c. either (shared_test (p 0) (p 1) c)) (each (λ b. either (λ c. either (shared_test (p 0) b c))) (each (λ a. either (λ b. either (λ c. either (shared_test a b c)))) shared_passes (p 0)) (p 1)) (p 2)) (p 3)))

  some_shared : any 6 (in_both p) ≡ true
  some_shared = any_same 6 (in_both p) (in_both truths) both_agree ∙ and_first (any 6 (in_both truths)) (all 6 fits) tested

  pub opposite_shared : (e : ℕ) → e < 6 → in_both p e ≡ true → pick 4 p ≡ opposite_corner e 0 ∷ opposite_corner e 1 ∷ []
  unfolding fits
  opposite_shared e l is =
      pick_same 4 p truths agree
      ∙ is_pair_lem (opposite_corner e 0) (opposite_corner e 1) (pick 4 truths)
      (⊎_elim (λ off. absurd (not_both (sym (both_agree e l) ∙ is) (not-true (in_both truths e) off))) (λ t. t)
      (or_either (not (in_both truths e)) (is_pair (opposite_corner e 0) (opposite_corner e 1) (pick 4 truths))
      (all_each 6 fits (and_second (any 6 (in_both truths)) (all 6 fits) tested) e l)))

  -- a search finds one
  pub shared_there : (place : Option ℕ) → place_of place ≡ lowest 6 (in_both p) → IsSome place
  shared_there None e = absurd (not_both some_shared (none_any 6 (in_both p) (lowest_none 6 (in_both p) (sym e))))
  shared_there (Some k) e = refl

  pub shared_found : {place : Option ℕ} {k : ℕ} → place_of place ≡ lowest 6 (in_both p) → place ≡ Some k → (k < 6) × (pick 4 p ≡ opposite_corner k 0 ∷ opposite_corner k 1 ∷ [])
  shared_found {place} {k} e is =
      let found = lowest_is 6 (in_both p) k (sym e ∙ ap place_of is) in
      (found.below, opposite_shared k found.below found.passes)
