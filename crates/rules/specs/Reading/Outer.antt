-- Outer rows: they come first; whether their marks are alike; where they are, no skin triangle lies between two of them.
use Rattle.std.specs.Prelude.{◌≡◌, ◌↔◌, ◌≢◌, true, List, ℕ, zero, suc, ◌≤◌, ◌<◌}
use Rattle.std.proofs.Common.{sym, ap, ◌∙◌, subst, ⊎_elim, zero-lt-suc, not-suc-le-zero, le_of_suc-le-suc, eq-or-lt_of_le, arith}
use Rattle.std.proofs.Math.Option
use Rattle.std.proofs.Math.Option.{Option}
use Rattle.std.proofs.Math.ListN.{get_or}
use Rattle.rules.specs.Table.{Table, outer}
use Rattle.rules.specs.Job.{lowest_outer, unlike}
use Rattle.rules.specs.Laws.Truth.{not_both, and_reads, not_reads, eqb_reads, same_or_not}
use Rattle.rules.specs.Laws.Below.{is_lowest, none_lowest, lowest_or_none}
use Rattle.rules.specs.Reading.Rows.{First, lowest_first, Before, Holds, holds_reads}
use Rattle.rules.specs.Reading.Closed.{Paired}
use Rattle.rules.specs.Reading.Skin.{Inside, BetweenSides}

-- an outer row has id 0, the infinite vertex
abbrev pub Outer : Table → ℕ → Type 0
Outer t r = Holds t r 0

pub outer_reads : (t : Table) (r : ℕ) → (outer t r ≡ true) ↔ Outer t r
unfolding outer
outer_reads t r = holds_reads t r 0

-- ---- outer rows come first

module _ {t : Table} {id_count : ℕ} (paired : Paired t id_count) where
  -- ids rise, so id 0 stands at corner 0
  at_corner_0 : (r : ℕ) → r < t.rows → Outer t r → (0 < t.corners) × (t.id r 0 ≡ 0)
  at_corner_0 r l (zero, m, e) = (m, e)
  at_corner_0 r l (suc c, m, e) = absurd (omega (arith, paired.rising r l 0 (suc c) (zero-lt-suc c) m))

  -- no row before has a higher id there
  row_before : (r : ℕ) → suc r < t.rows → Outer t (suc r) → Outer t r
  row_before r l o =
      let (m, e) = at_corner_0 (suc r) l o in
      let b : Before t r (suc r) = subst (λ s. Before t s (suc r)) (omega arith) (paired.ordered (suc r) (zero-lt-suc r) l) in
      ⊎_elim (λ (z : b.corner ≡ 0). absurd (omega (arith, subst (λ c. t.id r c < t.id (suc r) c) z b.lower))) (λ ne. (0, m, b.same 0 (omega (arith, ne)) ∙ e))
      (same_or_not b.corner 0)

  pub outer_first : (r s : ℕ) → s ≤ r → r < t.rows → Outer t r → Outer t s
  outer_first zero s l m o = subst (Outer t) (omega arith) o
  outer_first (suc r) s l m o =
      ⊎_elim (λ (e : s ≡ suc r). subst (Outer t) (sym e) o) (λ k. outer_first r s (le_of_suc-le-suc k) (omega arith) (row_before r m o)) (eq-or-lt_of_le l)

-- ---- the lowest outer row

module _ (t : Table) where
  pub lowest_outer_lem : (s : ℕ) → First t.rows (Outer t) s → lowest_outer t ≡ s
  lowest_outer_lem s f = ap (λ (x : Option ℕ). Option.get_or x 0) ((lowest_first t.rows (outer t) (Outer t) (λ r _. outer_reads t r) s).1 f)

  has_lowest : (r : ℕ) → r < t.rows → Outer t r → (s : ℕ) × First t.rows (Outer t) s
  has_lowest r l o =
      ⊎_elim (λ (s, low). (s, (lowest_first t.rows (outer t) (Outer t) (λ r _. outer_reads t r) s).0 (is_lowest t.rows (outer t) s low)))
      (λ off. absurd (not_both ((outer_reads t r).1 o) (off r l))) (lowest_or_none t.rows (outer t))

  -- if any row is outer, row 0 is
  abbrev pub OuterFirst : Type 0
  OuterFirst = (r : ℕ) → r < t.rows → Outer t r → Outer t 0

  -- so the lowest outer row is row 0
  pub lowest_first_row : OuterFirst → lowest_outer t ≡ 0
  lowest_first_row first =
      ⊎_elim
      (λ (r, low). lowest_outer_lem 0 (record {
        below = omega (arith, low.below);
        is = first r low.below ((outer_reads t r).0 low.passes);
        none_before = λ j l _. not-suc-le-zero l;
      }))
      (λ off. ap (λ (x : Option ℕ). Option.get_or x 0) (none_lowest t.rows (outer t) off)) (lowest_or_none t.rows (outer t))

-- ---- outer rows with unlike marks

module _ (t : Table) (marks : List ℕ) where
  -- r is an outer row whose mark differs from that of the lowest outer row
  pub record Unlike (r : ℕ) : Type 0 where
    pub is_outer : Outer t r
    pub lowest : ℕ
    pub lowest_is : First t.rows (Outer t) lowest
    pub differs : get_or marks r 0 ≢ get_or marks lowest 0

  pub unlike_reads : (r : ℕ) → r < t.rows → (unlike t marks r ≡ true) ↔ Unlike r
  unfolding unlike
  unlike_reads r l = (λ e. forth (tested.0 e), λ x. tested.1 (x.is_outer, λ e. x.differs (e ∙ at_lowest x.lowest x.lowest_is)))
    where
      tested : (unlike t marks r ≡ true) ↔ (Outer t r × (get_or marks r 0 ≢ get_or marks (lowest_outer t) 0))
      tested = and_reads (outer_reads t r) (not_reads (eqb_reads (get_or marks r 0) (get_or marks (lowest_outer t) 0)))

      at_lowest : (s : ℕ) → First t.rows (Outer t) s → get_or marks (lowest_outer t) 0 ≡ get_or marks s 0
      at_lowest s f = ap (λ (k : ℕ). get_or marks k 0) (lowest_outer_lem t s f)

      forth : Outer t r × (get_or marks r 0 ≢ get_or marks (lowest_outer t) 0) → Unlike r
      forth (o, ne) =
          let (s, f) = has_lowest t r l o in
          record { is_outer = o; lowest = s; lowest_is = f; differs = λ e. ne (e ∙ sym (at_lowest s f)) }

  -- the marks of any two outer rows are the same
  abbrev pub OuterAlike : Type 0
  OuterAlike = (r s : ℕ) → r < t.rows → s < t.rows → Outer t r → Outer t s → get_or marks r 0 ≡ get_or marks s 0

  -- no outer row is unlike exactly if all are alike
  pub alike_exactly : ((r : ℕ) → r < t.rows → Unlike r → ⊥) ↔ OuterAlike
  alike_exactly = (
    λ off r s lr ls o p.
        let (k, f) = has_lowest t r lr o in
        as_lowest off k f r lr o ∙ sym (as_lowest off k f s ls p),
    λ alike r l x. x.differs (alike r x.lowest l x.lowest_is.below x.is_outer x.lowest_is.is),
  )
    where
      as_lowest : ((r : ℕ) → r < t.rows → Unlike r → ⊥) → (k : ℕ) → First t.rows (Outer t) k → (r : ℕ) → r < t.rows → Outer t r → get_or marks r 0 ≡ get_or marks k 0
      as_lowest off k f r l o =
          ⊎_elim (λ e. e) (λ ne. absurd (off r l (record { is_outer = o; lowest = k; lowest_is = f; differs = ne }))) (same_or_not (get_or marks r 0) (get_or marks k 0))

  -- ---- the finite skin

  module _ (alike : OuterAlike) {r c : ℕ} (b : BetweenSides t (Inside marks) r c) where
    -- of the two rows at a skin triangle at most one is outer
    pub one_outer : Outer t b.in_row → Outer t b.out_row → ⊥
    one_outer i o = b.is_outside (sym (alike b.in_row b.out_row b.in_below b.out_below i o) ∙ b.is_inside)

    -- so no id of it is 0
    pub finite_ids : (k : ℕ) → k < t.corners → k ≢ c → t.id r k ≢ 0
    finite_ids k l ne e = one_outer (subst (Holds t b.in_row) e (b.in_holds k l ne)) (subst (Holds t b.out_row) e (b.out_holds k l ne))
