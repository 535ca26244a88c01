-- Triangles listed outward, in plain words. A list of triangles is given by its words, three ids each, as they are left in a buffer.
use Rattle.std.specs.Prelude.{◌≡◌, ◌⊎◌, ◌≢◌, Bool, not, ◌&&◌, cond, ℕ, ◌+◌, ◌*◌, ◌<◌, get_or, pos, ◌<ℤ◌}
use Rattle.std.proofs.Math.Path.{refl, ap, fun_ext}
use Rattle.std.proofs.Common.{◌∙◌, arith}
use Rattle.std.proofs.Math.Logic.{inl, inr, ⊎_elim}
use Rattle.std.proofs.Math.Bool.{true, false}
use Rattle.std.proofs.Math.Option.{Option, some, none}
use mathlib.Core.List.Memᴰ
use mathlib.Core.List.{List, [], ◌∷◌}
use Rattle.std.proofs.Math.ListN.{length}
use Rattle.rules.specs.Table.{Table}
use Rattle.rules.specs.Skin.{triangle, skin_as, skin}
use Rattle.rules.specs.Points.{Point}
use Rattle.rules.specs.Outward.{product, right_way, exchanged, triangle_as}
use Rattle.rules.specs.Laws.Lists.{Among}
use Rattle.rules.specs.Reading.Rows.{Holds}
use Rattle.rules.specs.Reading.Outer.{Outer}
use Rattle.rules.specs.Reading.Room.{triangle_length}

-- id i of triangle k, for i = 0, 1 and 2
abbrev pub listed_id : List ℕ → ℕ → ℕ → ℕ
listed_id words k i = get_or words (3 * k + i) 0

-- triangle k passes from x to y: they are its first and second id, its second and third, or its third and first
abbrev pub Passes : List ℕ → ℕ → ℕ → ℕ → Type 0
Passes words x y k =
    ((listed_id words k 0 ≡ x) × (listed_id words k 1 ≡ y))
    ⊎ (((listed_id words k 1 ≡ x) × (listed_id words k 2 ≡ y)) ⊎ ((listed_id words k 2 ≡ x) × (listed_id words k 0 ≡ y)))

-- row r holds the ids a, b and c
abbrev pub HoldsAll : Table → ℕ → ℕ → ℕ → ℕ → Type 0
HoldsAll t r a b c = Holds t r a × Holds t r b × Holds t r c

-- d is the fourth corner of row r, which holds a, b and c
abbrev pub FourthCorner : Table → ℕ → ℕ → ℕ → ℕ → ℕ → Type 0
FourthCorner t r a b c d = Holds t r d × (d ≢ a) × (d ≢ b) × (d ≢ c)

-- The ids a, b and c, in this order, are those of a triangle between an inside row and an outside row, the lowest first. The inside row's
-- fourth corner lies behind it; or, where the inside row is outer, the outside row's fourth corner lies in front.
pub record FacesOutward (t : Table) (at : ℕ → Point) (In : ℕ → Type 0) (a b c : ℕ) : Type 0 where
  pub in_row : ℕ
  pub out_row : ℕ
  pub in_below : in_row < t.rows
  pub out_below : out_row < t.rows
  pub is_inside : In in_row
  pub is_outside : In out_row → ⊥
  pub in_holds : HoldsAll t in_row a b c
  pub out_holds : HoldsAll t out_row a b c
  pub lowest_first : (a < b) × (a < c)
  pub others_differ : b ≢ c
  pub behind : (Outer t in_row → ⊥) → (d : ℕ) → FourthCorner t in_row a b c d → product at a b c d <ℤ pos 0
  pub in_front : Outer t in_row → (d : ℕ) → FourthCorner t out_row a b c d → pos 0 <ℤ product at a b c d

-- a list is another one with, in some of its triangles, the last two ids exchanged
pub record AsRising (listed rising : List (List ℕ)) : Type 0 where
  pub same_number : length listed ≡ length rising
  pub each : (k : ℕ) → k < length rising → (get_or listed k [] ≡ get_or rising k []) ⊎ (get_or listed k [] ≡ exchanged (get_or rising k []))

-- ---- a triangle as it is listed

pub exchanged_ids : (ids : List ℕ) → length ids ≡ 3 → (u : ℕ) → Among u (exchanged ids) → Among u ids
unfolding exchanged
exchanged_ids [] e u m = absurd (omega arith)
exchanged_ids (a ∷ []) e u m = absurd (omega arith)
exchanged_ids (a ∷ b ∷ []) e u m = absurd (omega arith)
exchanged_ids (a ∷ b ∷ c ∷ []) e u m =
    ⊎_elim (λ (q : u ≡ a). Memᴰ.head q)
    (λ m. ⊎_elim (λ (q : u ≡ c). Memᴰ.tail (Memᴰ.tail (Memᴰ.head q))) (λ m. Memᴰ.tail (Memᴰ.head (Memᴰ.eq_of_singleton m))) (Memᴰ.cases_cons m))
    (Memᴰ.cases_cons m)
exchanged_ids (a ∷ b ∷ c ∷ d ∷ ids) e u m = absurd (omega arith)

module _ (t : Table) (outward : Bool) (points : Option (ℕ → Point)) where
  -- the ids of a triangle rise, or the last two are exchanged
  pub either_way : (r c : ℕ) → (triangle_as t outward points r c ≡ triangle t r c) ⊎ (triangle_as t outward points r c ≡ exchanged (triangle t r c))
  unfolding triangle_as
  either_way r c = by_points points
    where
      by_test : (b : Bool) {x y : List ℕ} → (cond b y x ≡ x) ⊎ (cond b y x ≡ y)
      by_test true = inr refl
      by_test false = inl refl

      by_points : (points : Option (ℕ → Point)) → (triangle_as t outward points r c ≡ triangle t r c) ⊎ (triangle_as t outward points r c ≡ exchanged (triangle t r c))
      by_points none = inl refl
      by_points (some at) = by_test (outward && not (right_way t at r c))

  -- where outward is not asked for, all rise
  pub rising_unless : outward ≡ false → (inside : ℕ → Bool) → skin_as t inside (triangle_as t outward points) ≡ skin t inside
  unfolding triangle_as
  rising_unless off inside = ap (skin_as t inside) (fun_ext (λ r. fun_ext (λ c. rw off (by_points r c points))))
    where
      by_points : (r c : ℕ) (points : Option (ℕ → Point)) → triangle_as t false points r c ≡ triangle t r c
      by_points r c none = refl
      by_points r c (some at) = refl

  module _ (four : t.corners ≡ 4) where
    pub three : (r c : ℕ) → c < t.corners → length (triangle t r c) ≡ 3
    three r c l = triangle_length t four r c (rw four at l)

    -- each has three ids, those of its triangle
    pub three_each : (r c : ℕ) → c < t.corners → length (triangle_as t outward points r c) ≡ 3
    unfolding exchanged
    three_each r c l = ⊎_elim (λ e. ap length e ∙ three r c l) (λ e. ap length e) (either_way r c)
