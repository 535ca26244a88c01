-- The ends of the far edges of a vertex are twice as many as its skin triangles.
use Rattle.std.specs.Prelude.{◌≡◌, refl, ◌⊎◌, ◌≢◌, Bool, true, false, ◌&&◌, ◌||◌, ℕ, ◌+◌, ◌*◌, ◌/◌, ◌%◌, ◌<◌}
use Rattle.std.proofs.Math.Path.{sym, ap}
use Rattle.std.proofs.Common.{◌∙◌, subst, inl, inr, mod-lt, lit<}
use Rattle.std.proofs.Math.Logic.{⊎_elim}
use Rattle.std.proofs.Math.Bool.{or-false}
use Rattle.std.proofs.Math.Dec.{eqb}
use borrow.Author.Tests.{eqb-true, eq-eqb, ne_eqb}
use Rattle.rules.specs.Below.{bit, sum, count}
use Rattle.rules.specs.Table.{Table}
use Rattle.rules.specs.Skin.{on_skin, far_edge}
use Rattle.rules.specs.Laws.Truth.{true_or_false, same_or_not, and_second}
use Rattle.rules.specs.Laws.Count.{sum_same, sum_add, sum_zero, sum_swap, count_same, bit_one, bit_zero, none_count, one_count, any_count}
use Rattle.rules.specs.Laws.Places.{row_below}
use Rattle.rules.specs.Reading.Closed.{Paired}
use Rattle.table.specs.Faces.{face_of}
use Rattle.rings.specs.Far.{in_face, first_end, second_end, InFace, in_face_lem, first_in, second_in, split, beside, face_corner, face_rises, shown, shown_at, far_at, met_once, all_met}

-- how many ends edges between numbers below n have, each counted from either side
abbrev pub ends_of : ℕ → (ℕ → ℕ → Bool) → ℕ
ends_of n far = sum n (λ a. count n (far a))

-- ---- one edge has two ends

module _ (n x y : ℕ) where
  abbrev edge : ℕ → ℕ → Bool
  edge a b = (eqb a x && eqb b y) || (eqb a y && eqb b x)

  one_end : (z : ℕ) → z < n → count n (λ b. eqb b z) ≡ 1
  one_end z l = one_count n (λ b. eqb b z) (record { one = z; below = l; is = eq-eqb z z refl; only = λ k _ e. eqb-true k z e })

  two_ends : x < n → y < n → x ≢ y → ends_of n edge ≡ 2
  unfolding count
  two_ends lx ly ne =
      sum_same n (λ a. count n (edge a)) (λ a. bit (eqb a x) + bit (eqb a y)) (λ a _. at a (same_or_not a x) (same_or_not a y))
      ∙ sum_add n (λ a. bit (eqb a x)) (λ a. bit (eqb a y)) ∙ rw (one_end x lx, one_end y ly)
    where
      at : (a : ℕ) → (a ≡ x) ⊎ (a ≢ x) → (a ≡ y) ⊎ (a ≢ y) → count n (edge a) ≡ bit (eqb a x) + bit (eqb a y)
      at a (inl e) (inl f) = absurd (ne (sym e ∙ f))
      at a (inl e) (inr nf) =
          count_same n (edge a) (λ b. eqb b y) (λ b _. rw (eq-eqb a x e, ne_eqb a y nf) (or-false (eqb b y)))
          ∙ one_end y ly ∙ sym (rw (bit_one (eq-eqb a x e), bit_zero (ne_eqb a y nf)))
      at a (inr nf) (inl e) =
          count_same n (edge a) (λ b. eqb b x) (λ b _. rw (ne_eqb a x nf, eq-eqb a y e))
          ∙ one_end x lx ∙ sym (rw (bit_zero (ne_eqb a x nf), bit_one (eq-eqb a y e)))
      at a (inr nf) (inr ng) =
          none_count n (edge a) (λ b _. rw (ne_eqb a x nf, ne_eqb a y ng)) ∙ sym (rw (bit_zero (ne_eqb a x nf), bit_zero (ne_eqb a y ng)))

-- ---- place by place

module _ {t : Table} {n : ℕ} (paired : Paired t n) (four : t.corners ≡ 4) (inside : ℕ → Bool) (v : ℕ) where
  abbrev shown_here : ℕ → Bool
  shown_here = shown_at t inside v

  place_ends : (p : ℕ) → p < 4 * t.rows → ends_of n (far_at t inside v p) ≡ bit (shown_here p) + bit (shown_here p)
  unfolding far_at shown
  place_ends p l = ⊎_elim on off (true_or_false (shown_here p))
    where
      row : p / 4 < t.rows
      row = row_below {m = 4} (lit< tt) t.rows p l

      corner : p % 4 < 4
      corner = mod-lt p (lit< tt)

      end_below : (u : ℕ) → InFace (face_of t (p / 4) (p % 4)) u → u < n
      end_below u i =
          let (j, lj, _, e) = face_corner t (p / 4) (p % 4) u corner i in
          rw (← e) (paired.below (p / 4) row j (subst (λ m. j < m) (sym four) lj))

      off : shown_here p ≡ false → ends_of n (far_at t inside v p) ≡ bit (shown_here p) + bit (shown_here p)
      off e = sum_zero n (λ a. count n (far_at t inside v p a)) (λ a _. none_count n (far_at t inside v p a) (λ b _. rw e)) ∙ sym (rw (bit_zero e))

      on : shown_here p ≡ true → ends_of n (far_at t inside v p) ≡ bit (shown_here p) + bit (shown_here p)
      on e =
          let g = face_of t (p / 4) (p % 4) in
          let rises = face_rises t four (paired.rising (p / 4) row) (p % 4) corner in
          let held = in_face_lem g v (and_second (on_skin t inside (p / 4) (p % 4)) (in_face g v) (and_second (inside (p / 4)) (on_skin t inside (p / 4) (p % 4) && in_face g v) e)) in
          let s = split g v rises.0 rises.1 held in
          let x = first_end g v in
          let y = second_end g v in
          sum_same n (λ a. count n (far_at t inside v p a)) (λ a. count n (edge n x y a))
          (λ a _. count_same n (far_at t inside v p a) (edge n x y a) (λ b _. rw e (beside s (first_in g v) (second_in g v) a b)))
          ∙ two_ends n x y (end_below x (first_in g v)) (end_below y (second_in g v)) s.ends_differ.2
          ∙ sym (rw (bit_one e))

  pub ends_twice : ends_of n (far_edge t inside v) ≡ count (4 * t.rows) (shown_at t inside v) + count (4 * t.rows) (shown_at t inside v)
  unfolding count
  ends_twice =
      sum_same n (λ a. sum n (λ b. bit (far_edge t inside v a b))) (λ a. sum (4 * t.rows) (λ p. count n (far_at t inside v p a)))
      (λ a _. sum_same n (λ b. bit (far_edge t inside v a b)) (λ b. count (4 * t.rows) (λ p. far_at t inside v p a b)) (λ b _. ap bit (sym (all_met t four inside v paired.rising a b))
      ∙ any_count (4 * t.rows) (λ p. far_at t inside v p a b) (λ p q lp lq ep eq. met_once t four inside v paired.rising p q a b lp lq ep eq))
      ∙ sum_swap n (4 * t.rows) (λ b p. bit (far_at t inside v p a b)))
      ∙ sum_swap n (4 * t.rows) (λ a p. count n (far_at t inside v p a))
      ∙ sum_same (4 * t.rows) (λ p. ends_of n (far_at t inside v p)) (λ p. bit (shown_here p) + bit (shown_here p)) place_ends
      ∙ sum_add (4 * t.rows) (λ p. bit (shown_here p)) (λ p. bit (shown_here p))
