-- Neighbours: two rows that hold a triangle. That this goes both ways is counted: the ids that two rows share are as many from either side.
use Rattle.std.specs.Prelude.{◌≡◌, refl, ◌↔◌, ◌≢◌, true, ℕ, ◌<◌}
use Rattle.std.proofs.Math.Path.{sym, ap}
use Rattle.std.proofs.Common.{◌∙◌, arith, eqb-true, ne_eqb}
use Rattle.std.proofs.Math.Bool.{not}
use Rattle.std.proofs.Math.Dec.{eqb}
use Rattle.std.proofs.lemmas.Bool.{eqb-false, not-true}
use Rattle.rules.specs.Below.{any, bit, sum, count}
use Rattle.rules.specs.Table.{Table, holds, side, neighbours}
use Rattle.rules.specs.Laws.Truth.{eqb_back, and_first, and_second, and_both}
use Rattle.rules.specs.Laws.Below.{any_here, any_some}
use Rattle.rules.specs.Laws.Count.{sum_same, sum_swap, count_some, count_without, any_count, all_but_each, each_all_but, leavable, all_but_count}
use Rattle.rules.specs.Reading.Rows.{Rising, one_corner, Holds, holds_reads}

module _ (t : Table) where
  -- ---- a triangle in another row

  -- row s holds each id of row r but the one at corner c
  abbrev pub Side : ℕ → ℕ → ℕ → Type 0
  Side r c s = (k : ℕ) → k < t.corners → k ≢ c → Holds t s (t.id r k)

  pub side_reads : (r c s : ℕ) → (side t r c s ≡ true) ↔ Side r c s
  unfolding side
  side_reads r c s = (
    λ e k l ne. (holds_reads t s (t.id r k)).0 (all_but_each t.corners (λ k. holds t s (t.id r k)) c e k l ne),
    λ on. each_all_but t.corners (λ k. holds t s (t.id r k)) c (λ k l ne. (holds_reads t s (t.id r k)).1 (on k l ne)),
  )

  -- a row holds its own triangles
  pub side_self : (r c : ℕ) → Side r c r
  side_self r c k l _ = (k, l, refl)

  -- ---- neighbours

  abbrev pub Neighbours : ℕ → ℕ → Type 0
  Neighbours r s = (r ≢ s) × ((c : ℕ) × (c < t.corners) × Side r c s)

  pub neighbours_read : (r s : ℕ) → (neighbours t r s ≡ true) ↔ Neighbours r s
  unfolding neighbours
  neighbours_read r s = (
    λ e.
        let (c, l, q) = any_some t.corners (λ c. side t r c s) (and_second (not (eqb r s)) (any t.corners (λ c. side t r c s)) e) in
        (eqb-false r s (not-true (eqb r s) (and_first (not (eqb r s)) (any t.corners (λ c. side t r c s)) e)), (c, l, (side_reads r c s).0 q)),
    λ (ne, (c, l, q)). and_both (ap not (ne_eqb r s ne)) (any_here t.corners (λ c. side t r c s) c l ((side_reads r c s).1 q)),
  )

  -- ---- the ids that two rows share

  -- how many ids of row r are ids of row s
  shared : ℕ → ℕ → ℕ
  shared r s = count t.corners (λ c. holds t s (t.id r c))

  shared_pairs : (r s : ℕ) → Rising t s → shared r s ≡ sum t.corners (λ c. sum t.corners (λ k. bit (eqb (t.id s k) (t.id r c))))
  unfolding shared count holds
  shared_pairs r s up =
      sum_same t.corners (λ c. bit (any t.corners (λ k. eqb (t.id s k) (t.id r c)))) (λ c. sum t.corners (λ k. bit (eqb (t.id s k) (t.id r c))))
      (λ c _. any_count t.corners (λ k. eqb (t.id s k) (t.id r c)) (λ j k l m p q.
      one_corner t up j k l m (eqb-true (t.id s j) (t.id r c) p ∙ sym (eqb-true (t.id s k) (t.id r c) q))))

  shared_back : (r s : ℕ) → Rising t r → Rising t s → shared r s ≡ shared s r
  shared_back r s up up' =
      shared_pairs r s up'
      ∙ sum_swap t.corners t.corners (λ c k. bit (eqb (t.id s k) (t.id r c)))
      ∙ sum_same t.corners (λ k. sum t.corners (λ c. bit (eqb (t.id s k) (t.id r c)))) (λ k. sum t.corners (λ c. bit (eqb (t.id r c) (t.id s k))))
      (λ k _. sum_same t.corners (λ c. bit (eqb (t.id s k) (t.id r c))) (λ c. bit (eqb (t.id r c) (t.id s k))) (λ c _. ap bit (eqb_back (t.id s k) (t.id r c))))
      ∙ sym (shared_pairs s r up)

  -- how many triangles of row r are in row s
  unfoldable pub sides : ℕ → ℕ → ℕ
  sides r s = count t.corners (λ c. side t r c s)

  pub sides_back : (r s : ℕ) → Rising t r → Rising t s → sides r s ≡ sides s r
  unfolding sides side shared
  sides_back r s up up' =
      all_but_count t.corners (λ k. holds t s (t.id r k)) ∙ ap (leavable t.corners) (shared_back r s up up')
      ∙ sym (all_but_count t.corners (λ k. holds t r (t.id s k)))

  -- neighbours are mutual
  pub neighbours_back : (r s : ℕ) → Rising t r → Rising t s → Neighbours r s → Neighbours s r
  unfolding sides
  neighbours_back r s up up' (ne, (c, l, q)) =
      let some : 0 < sides s r = omega (arith, sides_back r s up up', count_without t.corners (λ c. side t r c s) c l ((side_reads r c s).1 q)) in
      let (d, m, q') = count_some t.corners (λ c. side t s c r) some in
      (λ (e : s ≡ r). ne (sym e), (d, m, (side_reads s d r).0 q'))
