-- A row and the four across its triangles.
use Rattle.std.specs.Prelude.{◌≡◌, refl, Bool, true, List, [], ◌∷◌, ℕ, ◌+◌, ◌*◌, ◌≤◌, ◌<◌, length, get_or}
use Rattle.std.proofs.Math.Path.{sym, ap}
use Rattle.std.proofs.Common.{◌∙◌}
use Rattle.std.proofs.Math.Logic.{⊎_elim}
use Rattle.std.proofs.Math.Bool.{false, cond}
use mathlib.Core.List.Memᴰ
use native.Mathlib.Omega.{arith}
use Rattle.rules.specs.Below.{bit, sum, count, pick}
use Rattle.rules.specs.Laws.Truth.{true_or_false}
use Rattle.rules.specs.Laws.Count.{count_more, count_not}
use Rattle.rules.specs.Laws.Lists.{Among, in_pick, pick_length}
use Rattle.table.specs.Ground.{Ground, neighbour_below, neighbour_listed}
use Rattle.table.specs.Rows.{rows_in}

-- its mark and those across can be asked
pub record Surrounded (neighbours marks : List ℕ) (r : ℕ) : Type 0 where
  pub here : r < length marks
  pub listed : (c : ℕ) → c < 4 → 4 * r + c < length neighbours
  pub across : (c : ℕ) → c < 4 → get_or neighbours (4 * r + c) 0 < length marks

pub ground_surrounds : {rows neighbours : List ℕ} {ids : ℕ} (marks : List ℕ) (r : ℕ) → Ground rows neighbours ids → rows_in rows ≤ length marks → r < rows_in rows → Surrounded neighbours marks r
ground_surrounds marks r on_ground m l = record {
  here = omega arith;
  listed = λ c k. neighbour_listed on_ground r c l k;
  across = λ c k. omega (arith, neighbour_below on_ground r c l k);
}

pub corner_asked : {neighbours marks : List ℕ} {r : ℕ} → Surrounded neighbours marks r → (c : ℕ) → c < 4
    → (4 * r + c < length neighbours) × (r < length marks) × (get_or neighbours (4 * r + c) 0 < length marks)
corner_asked s c l = (s.listed c l, s.here, s.across c l)

-- ---- n numbers were asked: so many pass, and the last that does

pub record Counted (p : ℕ → Bool) (n f last : ℕ) : Type 0 where
  pub counted : f ≡ count n p
  pub passes : 0 < f → (last < n) × (p last ≡ true)

module _ {p : ℕ → Bool} where
  pub counted_none : Counted p 0 0 0
  unfolding count sum
  counted_none = record { counted = refl; passes = λ l. absurd (omega arith) }

  pub counted_small : {n f last : ℕ} → Counted p n f last → f ≤ n
  counted_small {n} c = omega (arith, c.counted, count_not n p)

  pub counted_more : {n f last : ℕ} → Counted p n f last → {hit : Bool} {one last' : ℕ} → hit ≡ p n → one ≡ cond hit 1 0 → last' ≡ cond hit n last → Counted p (n + 1) (f + one) last'
  unfolding bit
  counted_more {n} {f} {last} c {hit} {one} {last'} eh eo el = record {
    counted = rw (count_more, eo, eh, c.counted);
    passes = λ l. ⊎_elim (λ (t : hit ≡ true). rw (el, t) (omega arith, sym eh ∙ t)) (λ (off : hit ≡ false). rw (el, off) (kept off l)) (true_or_false hit);
  }
    where
      kept : hit ≡ false → 0 < f + one → (last < n + 1) × (p last ≡ true)
      kept off l = let (m, t) = c.passes (omega (arith, eo ∙ ap (λ (b : Bool). cond b 1 0) off)) in (omega arith, t)

  -- the only one that passes
  pub counted_one : {n f last : ℕ} → Counted p n f last → f ≡ 1 → (last < n) × (pick n p ≡ last ∷ [])
  counted_one {n} {f} {last} c one =
      let (l, t) = c.passes (omega arith) in
      (l, alone (pick n p) (pick_length n p ∙ sym c.counted ∙ one) (in_pick n p last l t))
    where
      alone : (xs : List ℕ) → length xs ≡ 1 → Among last xs → xs ≡ last ∷ []
      alone [] e m = absurd (Memᴰ.not-nil m)
      alone (x ∷ []) e m = let same : last ≡ x = Memᴰ.eq_of_singleton m in cc
      alone (x ∷ y ∷ xs) e m = absurd (omega arith)
