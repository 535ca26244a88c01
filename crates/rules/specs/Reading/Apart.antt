-- No two rows that rise and are in order have the same ids.
use Rattle.std.specs.Prelude.{◌≡◌, ◌⊎◌, ℕ, zero, suc, ◌<◌}
use Rattle.std.proofs.Common.{sym, ◌∙◌, subst, inl, inr, ⊎_elim, le_of_suc-le-suc, not-suc-le-zero, eq-or-lt_of_le, lt_trans, arith, lit<}
use Rattle.rules.specs.Table.{Table}
use Rattle.rules.specs.Laws.Truth.{lower_same_higher}
use Rattle.rules.specs.Reading.Rows.{Rising, lower_first, Before, Holds}
use Rattle.rules.specs.Reading.Closed.{Paired}

module _ (t : Table) where
  before_trans : (s m r : ℕ) → Before t s m → Before t m r → Before t s r
  before_trans s m r a b = go (lower_same_higher a.corner b.corner)
    where
      go : (a.corner < b.corner) ⊎ (a.corner ≡ b.corner) ⊎ (b.corner < a.corner) → Before t s r
      go (inl l) = record { corner = a.corner; below = a.below; same = λ k h. a.same k h ∙ b.same k (lt_trans h l); lower = rw (← b.same a.corner l) a.lower }
      go (inr (inl e)) = record { corner = b.corner; below = b.below; same = λ k h. a.same k (rw e h) ∙ b.same k h; lower = lt_trans (rw e at a.lower) b.lower }
      go (inr (inr l)) = record { corner = b.corner; below = b.below; same = λ k h. a.same k (lt_trans h l) ∙ b.same k h; lower = rw (a.same b.corner l) b.lower }

  -- rows that rise, one of which holds all ids of the other, have the same ids
  same_corners : t.corners ≡ 4 → (x y : ℕ) → Rising t x → Rising t y → ((k : ℕ) → k < 4 → Holds t y (t.id x k)) → (k : ℕ) → k < 4 → t.id x k ≡ t.id y k
  same_corners four x y ux uy held k l =
      let (h, lh, p) = held 0 (lit< tt) in
      let (i, li, q) = held 1 (lit< tt) in
      let (j, lj, r) = held 2 (lit< tt) in
      let (m, lm, s) = held 3 (lit< tt) in
      let hi = lower_first t uy h i lh p q (ux 0 1 (lit< tt) (rw four (lit< tt))) in
      let ij = lower_first t uy i j li q r (ux 1 2 (lit< tt) (rw four (lit< tt))) in
      let jm = lower_first t uy j m lj r s (ux 2 3 (lit< tt) (rw four (lit< tt))) in
      let last : m < 4 = rw four at lm in
      at k l (subst (λ u. t.id y u ≡ t.id x 0) (omega arith) p) (subst (λ u. t.id y u ≡ t.id x 1) (omega arith) q)
      (subst (λ u. t.id y u ≡ t.id x 2) (omega arith) r) (subst (λ u. t.id y u ≡ t.id x 3) (omega arith) s)
    where
      at : (k : ℕ) → k < 4 → t.id y 0 ≡ t.id x 0 → t.id y 1 ≡ t.id x 1 → t.id y 2 ≡ t.id x 2 → t.id y 3 ≡ t.id x 3 → t.id x k ≡ t.id y k
      at zero l a b c d = sym a
      at (suc zero) l a b c d = sym b
      at (suc (suc zero)) l a b c d = sym c
      at (suc (suc (suc zero))) l a b c d = sym d
      at (suc (suc (suc (suc k)))) l a b c d = absurd (omega arith)

module _ {t : Table} {id_count : ℕ} (paired : Paired t id_count) (four : t.corners ≡ 4) where
  in_order : (s r : ℕ) → s < r → r < t.rows → Before t s r
  in_order s zero l m = absurd (not-suc-le-zero l)
  in_order s (suc r) l m =
      ⊎_elim (λ (e : s ≡ r). subst (λ u. Before t u (suc r)) (sym e) here) (λ (k : s < r). before_trans t s r (suc r) (in_order s r k (omega arith)) here) (eq-or-lt_of_le (le_of_suc-le-suc l))
    where
      here : Before t r (suc r)
      here = subst (λ u. Before t u (suc r)) (omega arith) (paired.ordered (suc r) (omega arith) m)

  no_before : (s r : ℕ) → ((k : ℕ) → k < 4 → t.id s k ≡ t.id r k) → Before t s r → ⊥
  no_before s r same b = omega (arith, b.lower, same b.corner (rw four at b.below))

  -- a row that holds all ids of another is that row
  pub one_row : (x y : ℕ) → x < t.rows → y < t.rows → ((k : ℕ) → k < 4 → Holds t y (t.id x k)) → x ≡ y
  one_row x y lx ly held = go (lower_same_higher x y)
    where
      same : (k : ℕ) → k < 4 → t.id x k ≡ t.id y k
      same = same_corners t four x y (paired.rising x lx) (paired.rising y ly) held

      go : (x < y) ⊎ (x ≡ y) ⊎ (y < x) → x ≡ y
      go (inl l) = absurd (no_before x y same (in_order x y l ly))
      go (inr (inl e)) = e
      go (inr (inr l)) = absurd (no_before y x (λ k m. sym (same k m)) (in_order y x l lx))
