-- Points: their range, the fourth corner of a row at a triangle, and codes 13 to 15.
use Rattle.std.specs.Prelude.{◌≡◌, refl, ◌⊎◌, ◌↔◌, ◌≢◌, Bool, true, false, not, ◌&&◌, ℕ, zero, suc, ◌<◌, T, eqb, ℤ, pos, negsuc, neg_ℤ, ◌≤ℤ◌, ◌<ℤ◌}
use Rattle.std.proofs.Math.Path.{sym, ap, subst, subst₂}
use Rattle.std.proofs.Common.{◌∙◌, ⊎_elim, lt_irrefl, lt_trans, arith, lt-ltb, le-ltb, eqb-true, eq-eqb, ne_eqb}
use Rattle.std.proofs.Math.Option.{Option, some, get_or}
use Rattle.std.specs.Int.Signed.{lt_z, le_z}
use Rattle.rules.specs.Below.{lowest, any, bit, sum, count}
use Rattle.rules.specs.Table.{Table, across}
use Rattle.rules.specs.Skin.{triangle}
use Rattle.rules.specs.Points.{Point, grid_most, in_range, on_grid, below_zero, above_zero, is_zero, same_sign, at_origin}
use Rattle.rules.specs.Outward.{product, side_of, on_triangle, fourth_id, far_id, off_grid, flat, same_side, folded}
use Rattle.rules.specs.Laws.Truth.{not_both, is_false, not_reads, and_reads, or_reads, eqb_reads, same_or_not}
use Rattle.rules.specs.Laws.Below.{is_lowest, any_here, any_some}
use Rattle.rules.specs.Laws.Count.{sum_same, sum_swap, bit_one, bit_zero, none_count, ExactlyOne, one_map, count_one, one_count, TheOther, count_not, any_count}
use Rattle.rules.specs.Reading.Rows.{Holds, one_corner}
use Rattle.rules.specs.Reading.Neighbours.{Side, side_self}
use Rattle.rules.specs.Reading.Closed.{Paired, across_is, across_other}
use Rattle.rules.specs.Reading.Outer.{Outer, outer_reads}

-- ---- whole numbers

true_reads : (b : Bool) → (b ≡ true) ↔ T b
true_reads true = (λ _. tt, λ _. refl)
true_reads false = (λ e. absurd (not_both e refl), λ x. absurd x)

pub less_reads : (a b : ℤ) → (lt_z a b ≡ true) ↔ (a <ℤ b)
less_reads a b = (λ e. record { lt = (true_reads (lt_z a b)).0 e }, λ l. (true_reads (lt_z a b)).1 l.lt)

most_reads : (a b : ℤ) → (le_z a b ≡ true) ↔ (a ≤ℤ b)
most_reads a b = (λ e. record { le = (true_reads (le_z a b)).0 e }, λ l. (true_reads (le_z a b)).1 l.le)

pub below_reads : (z : ℤ) → (below_zero z ≡ true) ↔ (z <ℤ pos 0)
unfolding below_zero
below_reads z = less_reads z (pos 0)

pub above_reads : (z : ℤ) → (above_zero z ≡ true) ↔ (pos 0 <ℤ z)
unfolding above_zero
above_reads z = less_reads (pos 0) z

pub zero_reads : (z : ℤ) → (is_zero z ≡ true) ↔ (z ≡ pos 0)
unfolding is_zero below_zero above_zero
zero_reads z = (forth z, λ e. rw e)
  where
    forth : (z : ℤ) → (not (lt_z z (pos 0)) && not (lt_z (pos 0) z) ≡ true) → z ≡ pos 0
    forth (pos zero) e = refl
    forth (pos (suc n)) e = absurd (not_both e (rw (lt-ltb 0 (suc n) (omega arith), le-ltb (suc n) 0 (omega arith))))
    forth (negsuc n) e = absurd (not_both e refl)

-- both below zero, or both above it
abbrev pub SameSign : ℤ → ℤ → Type 0
SameSign m n = ((m <ℤ pos 0) × (n <ℤ pos 0)) ⊎ ((pos 0 <ℤ m) × (pos 0 <ℤ n))

same_sign_reads : (m n : ℤ) → (same_sign m n ≡ true) ↔ SameSign m n
unfolding same_sign
same_sign_reads m n = or_reads (and_reads (below_reads m) (below_reads n)) (and_reads (above_reads m) (above_reads n))

-- ---- 13: a point out of range, or that of id 0 not three zeros

-- from -1023 to 1023
abbrev pub InRange : ℤ → Type 0
InRange z = (neg_ℤ (pos grid_most) ≤ℤ z) × (z ≤ℤ pos grid_most)

pub range_reads : (z : ℤ) → (in_range z ≡ true) ↔ InRange z
unfolding in_range
range_reads z = and_reads (most_reads (neg_ℤ (pos grid_most)) z) (most_reads z (pos grid_most))

abbrev pub OnGrid : Point → Type 0
OnGrid p = (InRange p.x × InRange p.y) × InRange p.z

pub grid_reads : (p : Point) → (on_grid p ≡ true) ↔ OnGrid p
unfolding on_grid
grid_reads p = and_reads (and_reads (range_reads p.x) (range_reads p.y)) (range_reads p.z)

abbrev pub AtOrigin : Point → Type 0
AtOrigin p = ((p.x ≡ pos 0) × (p.y ≡ pos 0)) × (p.z ≡ pos 0)

abbrev pub OffGrid : (ℕ → Point) → ℕ → Type 0
OffGrid at v = (OnGrid (at v) → ⊥) ⊎ ((v ≡ 0) × (AtOrigin (at v) → ⊥))

pub off_grid_reads : (at : ℕ → Point) (v : ℕ) → (off_grid at v ≡ true) ↔ OffGrid at v
unfolding off_grid at_origin
off_grid_reads at v =
    or_reads (not_reads (grid_reads (at v)))
    (and_reads (eqb_reads v 0) (not_reads (and_reads (and_reads (zero_reads (at v).x) (zero_reads (at v).y)) (zero_reads (at v).z))))

module _ (t : Table) (at : ℕ → Point) where
  -- ---- 14: a finite row of zero volume

  abbrev pub Flat : ℕ → Type 0
  Flat r = (Outer t r → ⊥) × (product at (t.id r 0) (t.id r 1) (t.id r 2) (t.id r 3) ≡ pos 0)

  pub flat_reads : (r : ℕ) → (flat t at r ≡ true) ↔ Flat r
  unfolding flat
  flat_reads r = and_reads (not_reads (outer_reads t r)) (zero_reads (product at (t.id r 0) (t.id r 1) (t.id r 2) (t.id r 3)))

-- ---- the fourth corner

-- v is an id of the triangle of row r that leaves out corner c
abbrev pub OnTriangle : Table → ℕ → ℕ → ℕ → Type 0
OnTriangle t r c v = (k : ℕ) × (k < t.corners) × (k ≢ c) × (t.id r k ≡ v)

pub on_triangle_reads : (t : Table) (r c v : ℕ) → (on_triangle t r c v ≡ true) ↔ OnTriangle t r c v
unfolding on_triangle
on_triangle_reads t r c v = (
  λ e.
      let (k, l, q) = any_some t.corners (λ k. not (eqb k c) && eqb (t.id r k) v) e in
      let (ne, is) = (test k).0 q in
      (k, l, ne, is),
  λ (k, l, ne, is). any_here t.corners (λ k. not (eqb k c) && eqb (t.id r k) v) k l ((test k).1 (ne, is)),
)
  where
    test : (k : ℕ) → (not (eqb k c) && eqb (t.id r k) v ≡ true) ↔ ((k ≢ c) × (t.id r k ≡ v))
    test k = and_reads (not_reads (eqb_reads k c)) (eqb_reads (t.id r k) v)

-- d is the fourth corner of row s at that triangle: an id of row s that is not on it
abbrev pub Fourth : Table → ℕ → ℕ → ℕ → ℕ → Type 0
Fourth t r c s d = Holds t s d × (OnTriangle t r c d → ⊥)

-- Row r is finite, and so is the other row at one of its triangles; and their fourth corners are on the same side of it.
pub record Folded (t : Table) (at : ℕ → Point) (r : ℕ) : Type 0 where
  pub corner : ℕ
  pub corner_below : corner < t.corners
  pub other : TheOther t.rows (Side t r corner) r
  pub finite : Outer t r → ⊥
  pub other_finite : Outer t other.other → ⊥
  pub near : ℕ
  pub far : ℕ
  pub near_is : Fourth t r corner r near
  pub far_is : Fourth t r corner other.other far
  pub same_side_lem : SameSign (side_of at (triangle t r corner) near) (side_of at (triangle t r corner) far)

module _ (t : Table) {id_count : ℕ} (paired : Paired t id_count) where
  -- A row that holds a triangle of row r has one corner that is not on it: each id of the triangle stands at one of its corners.
  module _ {r s c : ℕ} (lr : r < t.rows) (ls : s < t.rows) (lc : c < t.corners) (held : Side t r c s) where
    -- the id of row r at corner k, which stays, stands at corner m of row s
    stands : ℕ → ℕ → Bool
    stands m k = not (eqb k c) && eqb (t.id r k) (t.id s m)

    stands_reads : (m k : ℕ) → (stands m k ≡ true) ↔ ((k ≢ c) × (t.id r k ≡ t.id s m))
    unfolding stands
    stands_reads m k = and_reads (not_reads (eqb_reads k c)) (eqb_reads (t.id r k) (t.id s m))

    one_place : (k : ℕ) → k < t.corners → count t.corners (λ m. stands m k) ≡ bit (not (eqb k c))
    one_place k l =
        ⊎_elim (λ (e : k ≡ c). none_count t.corners (λ m. stands m k) (λ m _. is_false (stands m k) (λ q. ((stands_reads m k).0 q).0 e)) ∙ sym (bit_zero (ap not (eq-eqb k c e))))
        (λ ne.
        let (m, lm, em) = held k l ne in
        one_count t.corners (λ m. stands m k) (record {
          one = m;
          below = lm;
          is = (stands_reads m k).1 (ne, sym em);
          only = λ j lj q. one_corner t (paired.rising s ls) j m lj lm (sym ((stands_reads j k).0 q).1 ∙ sym em);
        })
        ∙ sym (bit_one (ap not (ne_eqb k c ne)))) (same_or_not k c)

    on_count : count t.corners (λ m. on_triangle t r c (t.id s m)) ≡ count t.corners (λ k. not (eqb k c))
    unfolding count on_triangle stands
    on_count =
        let n = t.corners in
        sum_same n (λ m. bit (any n (stands m))) (λ m. sum n (λ k. bit (stands m k))) (λ m _.
        any_count n (stands m) (λ j k lj lk p q. one_corner t (paired.rising r lr) j k lj lk (((stands_reads m j).0 p).1 ∙ sym ((stands_reads m k).0 q).1)))
        ∙ sum_swap n n (λ m k. bit (stands m k))
        ∙ sum_same n (λ k. sum n (λ m. bit (stands m k))) (λ k. bit (not (eqb k c))) one_place

    off_count : count t.corners (λ m. not (on_triangle t r c (t.id s m))) ≡ 1
    off_count =
        let left_out = one_count t.corners (λ k. eqb k c) (record { one = c; below = lc; is = eq-eqb c c refl; only = λ k _ e. eqb-true k c e }) in
        omega (arith, on_count, left_out, count_not t.corners (λ m. on_triangle t r c (t.id s m)), count_not t.corners (λ k. eqb k c))

    off_reads : (k : ℕ) → (not (on_triangle t r c (t.id s k)) ≡ true) ↔ (OnTriangle t r c (t.id s k) → ⊥)
    off_reads k = not_reads (on_triangle_reads t r c (t.id s k))

    one_off : ExactlyOne t.corners (λ m. OnTriangle t r c (t.id s m) → ⊥)
    one_off = one_map (λ k. (off_reads k).0) (λ k. (off_reads k).1) (count_one t.corners (λ m. not (on_triangle t r c (t.id s m))) off_count)

    -- `fourth_id` is the fourth corner, and there is no other
    off_lowest : lowest t.corners (λ k. not (on_triangle t r c (t.id s k))) ≡ some one_off.one
    off_lowest =
        is_lowest t.corners (λ k. not (on_triangle t r c (t.id s k))) one_off.one (record {
          below = one_off.below;
          passes = (off_reads one_off.one).1 one_off.is;
          first = λ k l. is_false _ (λ e. lt_irrefl one_off.one (subst (λ (n : ℕ). n < one_off.one) (one_off.only k (lt_trans l one_off.below) ((off_reads k).0 e)) l));
        })

    fourth_at : fourth_id t r c s ≡ t.id s one_off.one
    unfolding fourth_id
    fourth_at = ap (λ (k : Option ℕ). t.id s (get_or k 0)) off_lowest

    pub is_fourth : Fourth t r c s (fourth_id t r c s)
    is_fourth = subst (Fourth t r c s) (sym fourth_at) ((one_off.one, one_off.below, refl), one_off.is)

    pub fourth_only : (d : ℕ) → Fourth t r c s d → d ≡ fourth_id t r c s
    fourth_only d ((k, l, e), off) = sym e ∙ ap (t.id s) (one_off.only k l (λ on. off (subst (OnTriangle t r c) e on))) ∙ sym fourth_at

  -- a row's own fourth corner is the one that is left out
  pub own_fourth : {r c : ℕ} → r < t.rows → c < t.corners → Fourth t r c r (t.id r c)
  own_fourth {r} {c} lr lc = ((c, lc, refl), λ (k, lk, ne, e). ne (one_corner t (paired.rising r lr) k c lk lc e))

  pub own_only : {r c : ℕ} → r < t.rows → c < t.corners → (d : ℕ) → Fourth t r c r d → d ≡ t.id r c
  own_only {r} {c} lr lc d f =
      let only = fourth_only lr lr lc (side_self t r c) in only d f ∙ sym (only (t.id r c) (own_fourth lr lc))

  -- ---- 15: two finite neighbours on the same side of their triangle

  module _ (at : ℕ → Point) where
    pub folded_reads : (r : ℕ) → r < t.rows → (folded t at r ≡ true) ↔ Folded t at r
    unfolding folded same_side far_id
    folded_reads r lr = (
      λ e.
          let (c, lc, s) = any_some t.corners (same_side t at r) e in
          let o = across_is paired r c lr lc in
          let ((fin, far_fin), same) = (test c).0 s in
          record {
            corner = c;
            corner_below = lc;
            other = o;
            finite = fin;
            other_finite = subst (λ (x : ℕ). Outer t x → ⊥) (across_other t r c o) far_fin;
            near = t.id r c;
            far = fourth_id t r c (across t r c);
            near_is = own_fourth lr lc;
            far_is = subst (λ (x : ℕ). Fourth t r c x (fourth_id t r c (across t r c))) (across_other t r c o) (across_fourth c lc).0;
            same_side_lem = same;
          },
      λ x.
          let c = x.corner in
          let to = across_other t r c x.other in
          any_here t.corners (same_side t at r) c x.corner_below ((test c).1 (
            (x.finite, subst (λ (y : ℕ). Outer t y → ⊥) (sym to) x.other_finite),
            subst₂ (λ (d e : ℕ). SameSign (side_of at (triangle t r c) d) (side_of at (triangle t r c) e)) (own_only lr x.corner_below x.near x.near_is)
                ((across_fourth c x.corner_below).1 x.far (subst (λ (y : ℕ). Fourth t r c y x.far) (sym to) x.far_is)) x.same_side_lem,
          )),
    )
      where
        test : (c : ℕ) → (same_side t at r c ≡ true)
            ↔ (((Outer t r → ⊥) × (Outer t (across t r c) → ⊥)) × SameSign (side_of at (triangle t r c) (t.id r c)) (side_of at (triangle t r c) (fourth_id t r c (across t r c))))
        test c =
            and_reads (and_reads (not_reads (outer_reads t r)) (not_reads (outer_reads t (across t r c))))
            (same_sign_reads (side_of at (triangle t r c) (t.id r c)) (side_of at (triangle t r c) (fourth_id t r c (across t r c))))

        across_fourth : (c : ℕ) → c < t.corners
            → Fourth t r c (across t r c) (fourth_id t r c (across t r c)) × ((d : ℕ) → Fourth t r c (across t r c) d → d ≡ fourth_id t r c (across t r c))
        across_fourth c lc =
            let o = across_is paired r c lr lc in
            let to = sym (across_other t r c o) in
            let below = subst (λ (x : ℕ). x < t.rows) to o.below in
            let held = subst (Side t r c) to o.is in
            (is_fourth lr below lc held, fourth_only lr below lc held)
