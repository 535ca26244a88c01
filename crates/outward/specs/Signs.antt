-- The sign of the product at four ids, where no finite row is flat.
use Rattle.std.specs.Prelude.{◌≡◌, refl, Bool, true, ◌&&◌, ◌||◌, map, ℤ, pos, negsuc, neg_ℤ}
use Rattle.std.proofs.Common.{sym, ◌∙◌, arith, le-ltb, lt-ltb}
use Rattle.std.proofs.Math.Path.{ap, subst}
use Rattle.std.proofs.Math.Bool.{false, not, and_comm}
use Prim.Native.Nat.{ℕ, zero, suc, ◌<◌}
use Rattle.rules.specs.Below.{pick, gather, only}
use Rattle.rules.specs.Shape.{facet}
use Rattle.rules.specs.Table.{Table, outer}
use Rattle.rules.specs.Skin.{triangle}
use Rattle.rules.specs.Points.{Point, below_zero, above_zero, is_zero, same_sign}
use Rattle.rules.specs.Outward.{product, side_of, flat}
use Rattle.rules.specs.Laws.Truth.{not_both, is_false, and_both}
use Rattle.rules.specs.Reading.Closed.{Paired}
use Rattle.rules.specs.Reading.Skin.{triangle_of}
use Rattle.whole.specs.Swap.{swap_ab, swap_bc, swap_cd}
use Rattle.outward.specs.Orders.{in_any_order}
use Rattle.outward.specs.Row.{FourIds, own_is}

-- ---- a number and its opposite

below_neg : (z : ℤ) → below_zero (neg_ℤ z) ≡ above_zero z
unfolding below_zero above_zero
below_neg (pos zero) = refl
below_neg (pos (suc n)) = sym (lt-ltb 0 (suc n) (omega arith))
below_neg (negsuc n) = le-ltb (suc n) 0 (omega arith)

above_neg : (z : ℤ) → above_zero (neg_ℤ z) ≡ below_zero z
unfolding below_zero above_zero
above_neg (pos zero) = refl
above_neg (pos (suc n)) = sym (le-ltb (suc n) 0 (omega arith))
above_neg (negsuc n) = lt-ltb 0 (suc n) (omega arith)

zero_neg : (z : ℤ) → is_zero (neg_ℤ z) ≡ is_zero z
unfolding is_zero
zero_neg z = rw (below_neg z, above_neg z) (and_comm (not (above_zero z)) (not (below_zero z)))

pub same_neg : (m n : ℤ) → same_sign (neg_ℤ m) (neg_ℤ n) ≡ same_sign m n
unfolding same_sign
same_neg m n = rw (below_neg m, below_neg n, above_neg m, above_neg n) (or_back (above_zero m && above_zero n) (below_zero m && below_zero n))
  where
    or_back : (a b : Bool) → a || b ≡ b || a
    or_back true true = refl
    or_back true false = refl
    or_back false true = refl
    or_back false false = refl

-- a number that is not zero is above it or below it
pub solid_above : (z : ℤ) → is_zero z ≡ false → above_zero z ≡ not (below_zero z)
unfolding is_zero below_zero above_zero
solid_above (pos zero) e = absurd (not_both {b = true} refl e)
solid_above (pos (suc n)) e = rw (lt-ltb 0 (suc n) (omega arith), le-ltb (suc n) 0 (omega arith))
solid_above (negsuc n) e = refl

-- of two that are not zero, if not both are on one side of it, one is on each
pub other_side_lem : (m n : ℤ) → is_zero m ≡ false → is_zero n ≡ false → same_sign m n ≡ false → below_zero n ≡ not (below_zero m)
unfolding same_sign
other_side_lem m n p q e = go (below_zero m) (below_zero n) (rw (solid_above m p, solid_above n q) at e)
  where
    go : (a b : Bool) → (a && b || not a && not b) ≡ false → b ≡ not a
    go true true e = absurd (not_both refl e)
    go true false e = refl
    go false true e = refl
    go false false e = absurd (not_both refl e)

-- ---- the product at four ids

module _ (at : ℕ → Point) where
  pub swapped₁ : (a b c d : ℕ) → product at b a c d ≡ neg_ℤ (product at a b c d)
  unfolding product
  swapped₁ a b c d = swap_ab (at a) (at b) (at c) (at d)

  pub swapped₂ : (a b c d : ℕ) → product at a c b d ≡ neg_ℤ (product at a b c d)
  unfolding product
  swapped₂ a b c d = swap_bc (at a) (at b) (at c) (at d)

  swapped₃ : (a b c d : ℕ) → product at a b d c ≡ neg_ℤ (product at a b c d)
  unfolding product
  swapped₃ a b c d = swap_cd (at a) (at b) (at c) (at d)

  zero₁ : (a b c d : ℕ) → is_zero (product at b a c d) ≡ is_zero (product at a b c d)
  zero₁ a b c d = ap is_zero (swapped₁ a b c d) ∙ zero_neg (product at a b c d)

  zero₂ : (a b c d : ℕ) → is_zero (product at a c b d) ≡ is_zero (product at a b c d)
  zero₂ a b c d = ap is_zero (swapped₂ a b c d) ∙ zero_neg (product at a b c d)

  zero₃ : (a b c d : ℕ) → is_zero (product at a b d c) ≡ is_zero (product at a b c d)
  zero₃ a b c d = ap is_zero (swapped₃ a b c d) ∙ zero_neg (product at a b c d)

  -- it is below zero
  unfoldable pub sign : ℕ → ℕ → ℕ → ℕ → Bool
  sign a b c d = below_zero (product at a b c d)

  pub sign₁ : (a b c d : ℕ) → is_zero (product at a b c d) ≡ false → sign b a c d ≡ not (sign a b c d)
  unfolding sign
  sign₁ a b c d s = ap below_zero (swapped₁ a b c d) ∙ below_neg (product at a b c d) ∙ solid_above (product at a b c d) s

  pub sign₃ : (a b c d : ℕ) → is_zero (product at a b c d) ≡ false → sign a b d c ≡ not (sign a b c d)
  unfolding sign
  sign₃ a b c d s = ap below_zero (swapped₃ a b c d) ∙ below_neg (product at a b c d) ∙ solid_above (product at a b c d) s

  -- with the last two ids of the triangle exchanged it is below zero where it was above, and above where it was below
  pub exchanged_below : (a b c d : ℕ) → below_zero (product at a c b d) ≡ above_zero (product at a b c d)
  exchanged_below a b c d = ap below_zero (swapped₂ a b c d) ∙ below_neg (product at a b c d)

  pub exchanged_above : (a b c d : ℕ) → above_zero (product at a c b d) ≡ below_zero (product at a b c d)
  exchanged_above a b c d = ap above_zero (swapped₂ a b c d) ∙ above_neg (product at a b c d)

  -- it is the same from each id of the triangle on
  pub sign_rotated : (a b c d : ℕ) → sign b c a d ≡ sign a b c d
  unfolding sign
  sign_rotated a b c d = exchanged_below b a c d ∙ ap above_zero (swapped₁ a b c d) ∙ above_neg (product at a b c d)

-- ---- in a table that code 14 passes

module _ (t : Table) (four : t.corners ≡ 4) {id_count : ℕ} (paired : Paired t id_count) (at : ℕ → Point) (solid : (r : ℕ) → r < t.rows → flat t at r ≡ false) where
  -- the product at a triangle and the corner that is left out, by the row's corners in rising order
  own_zero : (s c : ℕ) → c < 4 → is_zero (side_of at (triangle t s c) (t.id s c)) ≡ is_zero (product at (t.id s 0) (t.id s 1) (t.id s 2) (t.id s 3))
  unfolding side_of triangle facet pick gather only
  own_zero s c l = ap (λ (n : ℕ). is_zero (side_of at (map (t.id s) (facet n c)) (t.id s c))) four ∙ go c l
    where
      a : ℕ
      a = t.id s 0

      b : ℕ
      b = t.id s 1

      d : ℕ
      d = t.id s 2

      e : ℕ
      e = t.id s 3

      go : (c : ℕ) → c < 4 → is_zero (side_of at (map (t.id s) (facet 4 c)) (t.id s c)) ≡ is_zero (product at a b d e)
      go zero l = zero₃ at b d a e ∙ zero₂ at b a d e ∙ zero₁ at a b d e
      go (suc zero) l = zero₃ at a d b e ∙ zero₂ at a b d e
      go (suc (suc zero)) l = zero₃ at a b d e
      go (suc (suc (suc zero))) l = refl
      go (suc (suc (suc (suc c)))) l = absurd (omega arith)

  -- a finite row's ids, in any order, have a product that is not zero
  pub solid_row : {s x y w v : ℕ} → s < t.rows → outer t s ≡ false → FourIds t s x y w v → is_zero (product at x y w v) ≡ false
  unfolding flat side_of
  solid_row {s} {x} {y} {w} {v} l fin i =
      let (hx, hy, hw) = i.held in
      let (c, lc, k) = triangle_of t four s x y w i.three hx hy hw in
      let own : is_zero (side_of at (triangle t s c) (t.id s c)) ≡ false = own_zero s c lc ∙ is_false _ (λ q. not_both (and_both (ap not fin) q) (solid s l)) in
      subst (λ (u : ℕ). is_zero (product at x y w u) ≡ false) (sym (own_is t four paired l lc k i.three i))
      (in_any_order (λ a b c'. is_zero (product at a b c' (t.id s c)) ≡ false) (λ a b c' e. zero₁ at a b c' (t.id s c) ∙ e) (λ a b c' e. zero₂ at a b c' (t.id s c) ∙ e)
      t four lc k i.three own)
