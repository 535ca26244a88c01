-- About an edge x y, as many skin triangles are left as are entered, by the rows of one side.
use Rattle.std.specs.Prelude.{◌≡◌, refl, ◌⊎◌, ◌≢◌, Bool, false, ◌&&◌, ℕ, ◌+◌, ◌<◌, eqb}
use Rattle.std.proofs.Math.Path.{sym, ap, subst}
use Rattle.std.proofs.Common.{ap₂, ◌∙◌, inl, inr, ⊎_elim, arith, eqb-true}
use Rattle.std.proofs.Math.Bool.{true, not, xor}
use Rattle.rules.specs.Below.{any, count, bit}
use Rattle.rules.specs.Table.{Table, across}
use Rattle.rules.specs.Skin.{different, holds_three, far_edge}
use Rattle.rules.specs.Outward.{far_id}
use Rattle.rules.specs.Laws.Truth.{true_or_false, not_both, is_false, is_true, same_test, and_first, and_second, and_both, same_or_not}
use Rattle.rules.specs.Laws.Below.{any_here, any_some, Lowest, lowest_or_none}
use Rattle.rules.specs.Laws.Count.{ExactlyOne, one_map, count_one, one_count, none_count, any_count, sum_same, sum_add, bit_zero}
use Rattle.rules.specs.Reading.Closed.{Paired, across_below}
use Rattle.rules.specs.Reading.Skin.{Different, different_reads, TriangleIds, three_reads, triangle_of, skin_far, skin_between}
use Rattle.std.proofs.lemmas.Bool.{not-true}
use Rattle.outward.specs.Flow.{leaves, enters, as_many}
use Rattle.outward.specs.Row.{FourIds, last_exchanged, four_ids, four_reads, below_corners, id_below, own_ids, far_ids, across_only, one_fourth}

-- ---- counting

split_count : (n : ℕ) (p q : ℕ → Bool) → count n p ≡ count n (λ k. p k && q k) + count n (λ k. p k && not (q k))
unfolding count
split_count n p q =
    sum_same n (λ k. bit (p k)) (λ k. bit (p k && q k) + bit (p k && not (q k))) (λ k _. either (p k) (q k))
    ∙ sum_add n (λ k. bit (p k && q k)) (λ k. bit (p k && not (q k)))
  where
    either : (a b : Bool) → bit a ≡ bit (a && b) + bit (a && not b)
    either true true = rw (bit_zero {b = false} refl) (omega arith)
    either true false = rw (bit_zero {b = false} refl) (omega arith)
    either false b = rw (bit_zero {b = false} refl) (omega arith)

-- where none but s can pass, some passes if s does
any_at : (n : ℕ) (p : ℕ → Bool) (s : ℕ) → s < n → ((j : ℕ) → j < n → p j ≡ true → j ≡ s) → any n p ≡ p s
any_at n p s l only = same_test (any n p) (p s) (λ e. let (j, m, q) = any_some n p e in subst (λ (z : ℕ). p z ≡ true) (only j m q) q) (λ q. any_here n p s l q)

-- where none but a and b can pass, and a does and b does not, one passes
one_of_two : (n : ℕ) (p : ℕ → Bool) (a b : ℕ) → a < n → p a ≡ true → p b ≡ false → ((j : ℕ) → j < n → p j ≡ true → j ≢ a → j ≡ b) → count n p ≡ 1
one_of_two n p a b la pa pb only =
    one_count n p (record {
      one = a;
      below = la;
      is = pa;
      only = λ j l q. ⊎_elim (λ (e : j ≡ a). e) (λ ne. absurd (not_both q (ap p (only j l q ne) ∙ pb))) (same_or_not j a);
    })

module _ (t : Table) (four : t.corners ≡ 4) {id_count : ℕ} (paired : Paired t id_count) where
  -- ---- the rows of one side, and a sign of four ids

  -- The sign changes where the last two ids change places, and two rows of this side at a triangle have opposite signs there.
  pub record Sided (on : ℕ → Bool) (sign : ℕ → ℕ → ℕ → ℕ → Bool) : Type 0 where
    pub turned : (x y w v s : ℕ) → s < t.rows → on s ≡ true → FourIds t s x y w v → sign x y v w ≡ not (sign x y w v)
    pub opposed : (x y w r c : ℕ) → r < t.rows → c < 4 → on r ≡ true → on (across t r c) ≡ true → TriangleIds t r c x y w → Different x y w
        → sign x y w (far_id t r c) ≡ not (sign x y w (t.id r c))

  module _ (on : ℕ → Bool) (sign : ℕ → ℕ → ℕ → ℕ → Bool) (sided : Sided on sign) (x y : ℕ) where
    -- row s passes from w to v
    passes : ℕ → ℕ → ℕ → Bool
    passes w v s = on s && (four_ids t s x y w v && sign x y w v)

    passes_reads : (w v s : ℕ) → passes w v s ≡ true → (on s ≡ true) × FourIds t s x y w v × (sign x y w v ≡ true)
    unfolding passes
    passes_reads w v s e =
        let rest = and_second (on s) (four_ids t s x y w v && sign x y w v) e in (
          and_first (on s) (four_ids t s x y w v && sign x y w v) e,
          (four_reads t four s x y w v).0 (and_first (four_ids t s x y w v) (sign x y w v) rest),
          and_second (four_ids t s x y w v) (sign x y w v) rest,
        )

    reads_passes : (w v s : ℕ) → on s ≡ true → FourIds t s x y w v → sign x y w v ≡ true → passes w v s ≡ true
    unfolding passes
    reads_passes w v s o i g = and_both o (and_both ((four_reads t four s x y w v).1 i) g)

    one_on : (w v v' s : ℕ) → s < t.rows → passes w v s ≡ true → passes w v' s ≡ true → v ≡ v'
    one_on w v v' s l a b =
        let (_, i, _) = passes_reads w v s a in
        let (_, k, _) = passes_reads w v' s b in
        one_fourth t four paired l i k

    one_from : (w w' v s : ℕ) → s < t.rows → passes w v s ≡ true → passes w' v s ≡ true → w ≡ w'
    one_from w w' v s l a b =
        let (_, i, _) = passes_reads w v s a in
        let (_, k, _) = passes_reads w' v s b in
        one_fourth t four paired l (last_exchanged i) (last_exchanged k)

    abbrev Leaves : ℕ → ℕ → Bool
    Leaves = leaves id_count t.rows passes

    abbrev Enters : ℕ → ℕ → Bool
    Enters = enters id_count t.rows passes

    leaves_on : (w s : ℕ) → Leaves w s ≡ true → (on s ≡ true) × (v : ℕ) × FourIds t s x y w v × (sign x y w v ≡ true)
    unfolding leaves
    leaves_on w s e =
        let (v, _, q) = any_some id_count (λ v. passes w v s) e in
        let (o, i, g) = passes_reads w v s q in
        (o, v, i, g)

    enters_on : (w s : ℕ) → Enters w s ≡ true → (on s ≡ true) × (v : ℕ) × FourIds t s x y w v × (sign x y v w ≡ true)
    unfolding enters
    enters_on w s e =
        let (v, _, q) = any_some id_count (λ v. passes v w s) e in
        let (o, i, g) = passes_reads v w s q in
        (o, v, last_exchanged i, g)

    -- a row of this side at x, y and w leaves or enters w, as its sign says
    module _ {w v s : ℕ} (l : s < t.rows) (o : on s ≡ true) (i : FourIds t s x y w v) where
      leaves_is : Leaves w s ≡ sign x y w v
      unfolding leaves
      leaves_is =
          same_test (Leaves w s) (sign x y w v) (λ e. let (_, u, k, g) = leaves_on w s e in subst (λ (z : ℕ). sign x y w z ≡ true) (one_fourth t four paired l k i) g)
          (λ g. any_here id_count (λ v. passes w v s) v (id_below t four paired l i.fourth) (reads_passes w v s o i g))

      enters_is : Enters w s ≡ not (sign x y w v)
      unfolding enters
      enters_is =
          same_test (Enters w s) (sign x y v w) (λ e. let (_, u, k, g) = enters_on w s e in subst (λ (z : ℕ). sign x y z w ≡ true) (one_fourth t four paired l k i) g)
          (λ g. any_here id_count (λ v. passes v w s) v (id_below t four paired l i.fourth) (reads_passes v w s o (last_exchanged i) g))
          ∙ sided.turned x y w v s l o i

    -- ---- one third id w

    abbrev far : ℕ → Bool
    far = far_edge t on x y

    -- some row of this side leaves w
    pub up : ℕ → Bool
    up w = any t.rows (Leaves w)

    holds_on : ℕ → ℕ → Bool
    holds_on w s = on s && holds_three t x y w s

    ids_hold : {w v s : ℕ} → on s ≡ true → FourIds t s x y w v → holds_on w s ≡ true
    unfolding holds_on
    ids_hold {w} {v} {s} o i = and_both o ((three_reads t four x y w s).1 i.held)

    -- a row of this side at x, y and w has them at the corners of a triangle
    at_triangle : {w s : ℕ} → Different x y w → holds_on w s ≡ true → (on s ≡ true) × (c : ℕ) × (c < 4) × TriangleIds t s c x y w
    unfolding holds_on
    at_triangle {w} {s} d h =
        let (hx, hy, hw) = (three_reads t four x y w s).0 (and_second (on s) (holds_three t x y w s) h) in
        let (c, lc, i) = triangle_of t four s x y w d hx hy hw in
        (and_first (on s) (holds_three t x y w s) h, c, lc, i)

    -- where y w is a far edge of x, one row of this side holds the three
    far_one : {w : ℕ} → far w ≡ true → Different x y w × ExactlyOne t.rows (λ s. holds_on w s ≡ true)
    unfolding far_edge holds_on
    far_one {w} e = (
      (different_reads x y w).0 (and_first (different x y w) (eqb (count t.rows (holds_on w)) 1) e),
      count_one t.rows (holds_on w) (eqb-true (count t.rows (holds_on w)) 1 (and_second (different x y w) (eqb (count t.rows (holds_on w)) 1) e)),
    )

    -- and its sign says whether w is left
    pub up_is : {w v s : ℕ} → s < t.rows → on s ≡ true → FourIds t s x y w v → far w ≡ true → up w ≡ sign x y w v
    unfolding up
    up_is {w} {v} {s} l o i e =
        let one = (far_one e).1 in
        any_at t.rows (Leaves w) s l (λ j m q. let (oj, _, k, _) = leaves_on w j q in one.only j m (ids_hold oj k) ∙ sym (one.only s l (ids_hold o i)))
        ∙ leaves_is l o i

    -- it leaves w or enters it, once
    once : (w : ℕ) → w < id_count → far w ≡ true → (count t.rows (Leaves w) ≡ bit (up w)) × (count t.rows (Enters w) ≡ bit (not (up w)))
    unfolding up
    once w _ e =
        let (d, one) = far_one e in
        let (o, c, lc, i) = at_triangle d one.is in
        let own = own_ids t four paired one.below lc i d in
        let only_left : (j : ℕ) → j < t.rows → Leaves w j ≡ true → j ≡ one.one = λ j l q. let (oj, _, k, _) = leaves_on w j q in one.only j l (ids_hold oj k) in
        let only_entered : (j : ℕ) → j < t.rows → Enters w j ≡ true → j ≡ one.one = λ j l q. let (oj, _, k, _) = enters_on w j q in one.only j l (ids_hold oj k) in (
          sym (any_count t.rows (Leaves w) (λ j k lj lk a b. only_left j lj a ∙ sym (only_left k lk b))),
          sym (any_count t.rows (Enters w) (λ j k lj lk a b. only_entered j lj a ∙ sym (only_entered k lk b)))
              ∙ ap bit (any_at t.rows (Enters w) one.one one.below only_entered ∙ enters_is one.below o own ∙ ap not (sym (up_is one.below o own e))),
        )

    -- where it is none, two rows of this side hold the three and one leaves w, the other enters it; or none does
    even : (w : ℕ) → w < id_count → far w ≡ false → count t.rows (Leaves w) ≡ count t.rows (Enters w)
    unfolding xor
    even w _ e = go (true_or_false (different x y w)) (lowest_or_none t.rows (holds_on w))
      where
        none : ((s v : ℕ) → s < t.rows → on s ≡ true → FourIds t s x y w v → ⊥) → count t.rows (Leaves w) ≡ count t.rows (Enters w)
        none off =
            none_count t.rows (Leaves w) (λ s l. is_false (Leaves w s) (λ q. let (o, v, i, _) = leaves_on w s q in off s v l o i))
            ∙ sym (none_count t.rows (Enters w) (λ s l. is_false (Enters w s) (λ q. let (o, v, i, _) = enters_on w s q in off s v l o i)))

        both : Different x y w → (s : ℕ) → s < t.rows → holds_on w s ≡ true → count t.rows (Leaves w) ≡ count t.rows (Enters w)
        both d s l h = let (o, c, lc, i) = at_triangle d h in pair o c lc i (sign x y w (t.id s c)) refl
          where
            pair : on s ≡ true → (c : ℕ) → c < 4 → TriangleIds t s c x y w → (b : Bool) → sign x y w (t.id s c) ≡ b → count t.rows (Leaves w) ≡ count t.rows (Enters w)
            pair o c lc i = by_sign
              where
                s' : ℕ
                s' = across t s c

                l' : s' < t.rows
                l' = across_below paired s c l (below_corners t four lc)

                o' : on s' ≡ true
                o' =
                    let same : xor (on s) (on s') ≡ false = sym (skin_between t on paired s c l (below_corners t four lc)) ∙ skin_far t four on i d lc ∙ e in
                    is_true (on s') (λ off. not_both {b = xor true false} refl (ap₂ xor (sym o) (sym off) ∙ same))

                mine : FourIds t s x y w (t.id s c)
                mine = own_ids t four paired l lc i d

                its : FourIds t s' x y w (far_id t s c)
                its = far_ids t four paired l lc i d

                its_sign : sign x y w (far_id t s c) ≡ not (sign x y w (t.id s c))
                its_sign = sided.opposed x y w s c l lc o o' i d

                only_left : (j : ℕ) → j < t.rows → Leaves w j ≡ true → j ≢ s → j ≡ s'
                only_left j m q ne = let (_, _, k, _) = leaves_on w j q in across_only t four paired l lc i d j m k.held ne

                only_entered : (j : ℕ) → j < t.rows → Enters w j ≡ true → j ≢ s → j ≡ s'
                only_entered j m q ne = let (_, _, k, _) = enters_on w j q in across_only t four paired l lc i d j m k.held ne

                -- the same named from the other row
                back : {p : ℕ → Bool} → ((j : ℕ) → j < t.rows → p j ≡ true → j ≢ s → j ≡ s') → (j : ℕ) → j < t.rows → p j ≡ true → j ≢ s' → j ≡ s
                back only j m q ne = ⊎_elim (λ (z : j ≡ s). z) (λ d. absurd (ne (only j m q d))) (same_or_not j s)

                by_sign : (b : Bool) → sign x y w (t.id s c) ≡ b → count t.rows (Leaves w) ≡ count t.rows (Enters w)
                by_sign true g =
                    one_of_two t.rows (Leaves w) s s' l (leaves_is l o mine ∙ g) (leaves_is l' o' its ∙ its_sign ∙ ap not g) only_left
                    ∙ sym (one_of_two t.rows (Enters w) s' s l' (enters_is l' o' its ∙ ap not (its_sign ∙ ap not g)) (enters_is l o mine ∙ ap not g) (back only_entered))
                by_sign false g =
                    one_of_two t.rows (Leaves w) s' s l' (leaves_is l' o' its ∙ its_sign ∙ ap not g) (leaves_is l o mine ∙ g) (back only_left)
                    ∙ sym (one_of_two t.rows (Enters w) s s' l (enters_is l o mine ∙ ap not g) (enters_is l' o' its ∙ ap not (its_sign ∙ ap not g)) only_entered)

        go : (different x y w ≡ true) ⊎ (different x y w ≡ false) → ((s : ℕ) × Lowest t.rows (holds_on w) s) ⊎ ((s : ℕ) → s < t.rows → holds_on w s ≡ false)
            → count t.rows (Leaves w) ≡ count t.rows (Enters w)
        go (inr off) _ = none (λ s v l o i. not_both ((different_reads x y w).1 i.three) off)
        go (inl d) (inl (s, low)) = both ((different_reads x y w).0 d) s low.below low.passes
        go (inl d) (inr off) = none (λ s v l o i. not_both (ids_hold o i) (off s l))

    -- ---- all of them

    -- of the skin triangles at x y, as many third ids are left as are entered
    balanced : count id_count (λ w. far w && up w) ≡ count id_count (λ w. far w && not (up w))
    balanced = as_many id_count t.rows passes one_on one_from far up even once

    -- where there are two, one is left and one entered
    pub one_each : count id_count far ≡ 2 → (b : Bool) → ExactlyOne id_count (λ w. (far w ≡ true) × (up w ≡ b))
    one_each two true =
        one_map (λ w e. (and_first (far w) (up w) e, and_second (far w) (up w) e)) (λ w (f, u). and_both f u)
        (count_one id_count (λ w. far w && up w) (omega (arith, balanced, split_count id_count far up)))
    one_each two false =
        one_map (λ w e. (and_first (far w) (not (up w)) e, not-true (up w) (and_second (far w) (not (up w)) e))) (λ w (f, u). and_both f (ap not u))
        (count_one id_count (λ w. far w && not (up w)) (omega (arith, balanced, split_count id_count far up)))
