-- Rows that hold two ids, an edge or one vertex twice, and the moves between them: from a row across a triangle that holds both.
use Rattle.std.specs.Prelude.{◌≡◌, refl, ◌⊎◌, ◌↔◌, ◌≢◌, Bool, true, false, not, ◌&&◌, ℕ, ◌<◌, eqb}
use Rattle.std.proofs.Common.{sym, ap, ◌∙◌, subst, inl, inr, ⊎_elim, arith, lit<, eqb-true}
use Rattle.rules.specs.Table.{Table, holds, neighbours, across}
use Rattle.rules.specs.Laws.Truth.{true_or_false, not_both, same_or_not, and_both, not_reads, and_reads, eqb_reads}
use Rattle.rules.specs.Laws.Joined.{Chain, stay, step, chain_ends, chain_join, Picked}
use Rattle.rules.specs.Reading.Rows.{Holds, holds_reads}
use Rattle.rules.specs.Reading.Neighbours.{Side, Neighbours, neighbours_read}
use Rattle.rules.specs.Reading.Closed.{Paired, across_other, across_is}

-- row s holds a and b: an edge, or where a is b a vertex
unfoldable pub both : Table → ℕ → ℕ → ℕ → Bool
both t a b s = holds t s a && holds t s b

pub both_reads : (t : Table) (a b s : ℕ) → (both t a b s ≡ true) ↔ (Holds t s a × Holds t s b)
unfolding both
both_reads t a b s = and_reads (holds_reads t s a) (holds_reads t s b)

-- from row x one leaves through a corner whose id is neither a nor b
unfoldable pub leaves : Table → ℕ → ℕ → ℕ → ℕ → Bool
leaves t a b x c = not (eqb (t.id x c) a) && not (eqb (t.id x c) b)

pub leaves_reads : (t : Table) (a b x c : ℕ) → (leaves t a b x c ≡ true) ↔ ((t.id x c ≢ a) × (t.id x c ≢ b))
unfolding leaves
leaves_reads t a b x c = and_reads (not_reads (eqb_reads (t.id x c) a)) (not_reads (eqb_reads (t.id x c) b))

leaves_not : (t : Table) (a b x c : ℕ) → leaves t a b x c ≡ false → (t.id x c ≡ a) ⊎ (t.id x c ≡ b)
unfolding leaves
leaves_not t a b x c e =
    ⊎_elim (λ i. inl (eqb-true (t.id x c) a i)) (λ n. ⊎_elim (λ j. inr (eqb-true (t.id x c) b j)) (λ o. absurd (not_both (and_both (ap not n) (ap not o)) e)) (true_or_false (eqb (t.id x c) b)))
    (true_or_false (eqb (t.id x c) a))

-- x is a row that holds a and b
abbrev pub At : Table → ℕ → ℕ → ℕ → Type 0
At t a b x = Picked t.rows (both t a b) x

-- y is across a triangle of row x that holds a and b
abbrev pub Move : Table → ℕ → ℕ → ℕ → ℕ → Type 0
Move t a b x y = (c : ℕ) × (c < 4) × (leaves t a b x c ≡ true) × (across t x c ≡ y)

-- from x to y by neighbours that hold a and b
abbrev pub Joining : Table → ℕ → ℕ → ℕ → ℕ → Type 0
Joining t a b x y = Chain (At t a b) (λ u v. neighbours t u v ≡ true) x y

module _ {t : Table} {id_count : ℕ} (paired : Paired t id_count) (four : t.corners ≡ 4) where
  -- a move keeps to rows that hold a and b
  pub move_good : (a b start x c : ℕ) → x < t.rows → c < 4 → Joining t a b start x → leaves t a b x c ≡ true → Joining t a b start (across t x c)
  move_good a b start x c l m joining w =
      let o = across_is paired x c l (rw four m) in
      let (na, nb) = (leaves_reads t a b x c).0 w in
      let (ha, hb) = (both_reads t a b x).0 (chain_ends joining).1 in
      rw (across_other t x c o) (chain_join joining (step (chain_ends joining) ((neighbours_read t x o.other).1 (λ (e : x ≡ o.other). o.differs (sym e), (c, rw four m, o.is)))
      (stay (o.below, (both_reads t a b o.other).1 (kept a na ha o.is, kept b nb hb o.is)) refl)))
    where
      kept : (v : ℕ) → t.id x c ≢ v → Holds t x v → {y : ℕ} → Side t x c y → Holds t y v
      kept v ne (k, lk, e) {y} on = subst (Holds t y) e (on k lk (λ (f : k ≡ c). ne (ap (t.id x) (sym f) ∙ e)))

  -- a row has a corner through which one leaves
  way_out : (a b x : ℕ) → x < t.rows → (c : ℕ) × (c < 4) × (leaves t a b x c ≡ true)
  way_out a b x l =
      ⊎_elim (λ w. (0, lit< tt, w)) (λ off. ⊎_elim (λ w. (1, lit< tt, w)) (λ off'. ⊎_elim (λ w. (2, lit< tt, w)) (λ off''. absurd (three
      (paired.rising x l 0 1 (lit< tt) (rw four (lit< tt))) (paired.rising x l 1 2 (lit< tt) (rw four (lit< tt))) (leaves_not t a b x 0 off) (leaves_not t a b x 1 off') (leaves_not t a b x 2 off'')))
      (true_or_false (leaves t a b x 2))) (true_or_false (leaves t a b x 1))) (true_or_false (leaves t a b x 0))
    where
      -- three different ids are not all a or b
      three : {i j k : ℕ} → i < j → j < k → (i ≡ a) ⊎ (i ≡ b) → (j ≡ a) ⊎ (j ≡ b) → (k ≡ a) ⊎ (k ≡ b) → ⊥
      three l m (inl p) (inl q) e = omega arith
      three l m (inr p) (inr q) e = omega arith
      three l m (inl p) (inr q) (inl e) = omega arith
      three l m (inl p) (inr q) (inr e) = omega arith
      three l m (inr p) (inl q) (inl e) = omega arith
      three l m (inr p) (inl q) (inr e) = omega arith

  -- neighbours that hold a and b are a move apart
  pub step_is_move : (a b x y : ℕ) → At t a b x → At t a b y → neighbours t x y ≡ true → Move t a b x y
  step_is_move a b x y (lx, hx) (ly, hy) n = apart ((neighbours_read t x y).0 n)
    where
      -- the row across a triangle that y holds is y
      is_across : x ≢ y → (c : ℕ) → c < 4 → Side t x c y → across t x c ≡ y
      is_across ne c lc on = let o = across_is paired x c lx (rw four lc) in across_other t x c o ∙ sym (o.only y ly on (λ (e : y ≡ x). ne (sym e)))

      -- where the corner between them has the id a or b, row y holds all ids of x, and any way out will do
      apart : Neighbours t x y → Move t a b x y
      apart (ne, (c, lc, on)) =
          ⊎_elim (λ w. (c, rw four at lc, w, is_across ne c (rw four at lc) on))
          (λ off. let (d, ld, w) = way_out a b x lx in (d, ld, w, is_across ne d ld (λ k lk _. whole off k lk))) (true_or_false (leaves t a b x c))
        where
          shared : leaves t a b x c ≡ false → Holds t y (t.id x c)
          shared off =
              let (ha, hb) = (both_reads t a b y).0 hy in
              ⊎_elim (λ e. subst (Holds t y) (sym e) ha) (λ e. subst (Holds t y) (sym e) hb) (leaves_not t a b x c off)

          whole : leaves t a b x c ≡ false → (k : ℕ) → k < t.corners → Holds t y (t.id x k)
          whole off k lk = ⊎_elim (λ (e : k ≡ c). subst (λ (j : ℕ). Holds t y (t.id x j)) (sym e) (shared off)) (λ other. on k lk other) (same_or_not k c)
