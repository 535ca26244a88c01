-- Rows: rising ids, dictionary order, the ids that a row holds. "First such row" is `First`.
use Rattle.std.specs.Prelude.{◌≡◌, ◌⊎◌, ◌↔◌, ◌≢◌, true, ◌&&◌}
use Rattle.std.proofs.Common.{ap, inl, inr, ⊎_elim, lt_trans, le_antisymm, le_of_suc-le-suc, not-suc-le-zero, eq-or-lt_of_le, lt_of_not-le, arith}
use Rattle.std.proofs.Math.Bool.{Bool}
use Rattle.std.proofs.Math.Option.{some}
use Prim.Native.Nat.{ℕ, zero, suc, ◌+◌, ◌-◌, ◌≤◌, ◌<◌}
use Rattle.std.proofs.Math.Nat.{le_of_suc-le}
use Rattle.std.proofs.Math.Numerals.{add-one}
use Rattle.std.proofs.Math.Dec.{eqb, ltb}
use borrow.Author.Tests.{eqb-true, eq-eqb, ltb-true, lt-ltb}
use Rattle.rules.specs.Below.{lowest, all}
use Rattle.rules.specs.Table.{Table, rising, ids_below, before, holds}
use Rattle.rules.specs.Laws.Truth.{not_both, lower_same_higher, is_false, and_first, and_second, and_both}
use Rattle.rules.specs.Laws.Below.{lowest_is, is_lowest, any_here, any_some, all_each, each_all}

-- ---- the first with a property

-- k is below n and has the property, and no number before k has it
pub record First (n : ℕ) (P : ℕ → Type 0) (k : ℕ) : Type 0 where
  pub below : k < n
  pub is : P k
  pub none_before : (j : ℕ) → j < k → P j → ⊥

-- where the test at each number below n is the property, the lowest that passes is the first with the property
pub lowest_first : (n : ℕ) (p : ℕ → Bool) (P : ℕ → Type 0) → ((k : ℕ) → k < n → (p k ≡ true) ↔ P k)
    → (k : ℕ) → (lowest n p ≡ some k) ↔ First n P k
lowest_first n p P reads k = (
  λ e. let l = lowest_is n p k e in
      record {
        below = l.below;
        is = (reads k l.below).0 l.passes;
        none_before = λ j m q. not_both ((reads j (lt_trans m l.below)).1 q) (l.first j m);
      },
  λ f. is_lowest n p k (record {
    below = f.below;
    passes = (reads k f.below).1 f.is;
    first = λ j m. is_false (p j) (λ q. f.none_before j m ((reads j (lt_trans m f.below)).0 q));
  }),
)

-- ---- rising, below V

-- what rises from each number to the next rises
climb : (n : ℕ) (f : ℕ → ℕ) → ((k : ℕ) → suc k < n → f k < f (suc k)) → (i j : ℕ) → i < j → j < n → f i < f j
climb n f up i zero l m = absurd (not-suc-le-zero l)
climb n f up i (suc j) l m =
    ⊎_elim (λ (e : i ≡ j). rw e (up j m)) (λ (k : i < j). lt_trans (climb n f up i j k (le_of_suc-le m)) (up j m)) (eq-or-lt_of_le (le_of_suc-le-suc l))

module _ (t : Table) where
  abbrev pub Rising : ℕ → Type 0
  Rising r = (i j : ℕ) → i < j → j < t.corners → t.id r i < t.id r j

  pub rising_reads : (r : ℕ) → (rising t r ≡ true) ↔ Rising r
  unfolding rising
  rising_reads r = (
    λ e. climb t.corners (t.id r) (λ c l.
        rw (← add-one c) (ltb-true (t.id r c) (t.id r (c + 1)) (all_each (t.corners - 1) (λ k. ltb (t.id r k) (t.id r (k + 1))) e c (omega arith)))),
    λ up.
        each_all (t.corners - 1) (λ k. ltb (t.id r k) (t.id r (k + 1))) (λ k l.
        lt-ltb (t.id r k) (t.id r (k + 1)) (up k (k + 1) (omega arith) (omega arith))),
  )

  abbrev pub IdsBelow : ℕ → ℕ → Type 0
  IdsBelow id_count r = (c : ℕ) → c < t.corners → t.id r c < id_count

  pub ids_below_reads : (id_count r : ℕ) → (ids_below t id_count r ≡ true) ↔ IdsBelow id_count r
  unfolding ids_below
  ids_below_reads id_count r = (
    λ e c l. ltb-true (t.id r c) id_count (all_each t.corners (λ k. ltb (t.id r k) id_count) e c l),
    λ under. each_all t.corners (λ k. ltb (t.id r k) id_count) (λ c l. lt-ltb (t.id r c) id_count (under c l)),
  )

  -- ids that rise differ
  pub one_corner : {r : ℕ} → Rising r → (i j : ℕ) → i < t.corners → j < t.corners → t.id r i ≡ t.id r j → i ≡ j
  one_corner {r} up i j l m e =
      le_antisymm (le_of_suc-le-suc (lt_of_not-le (λ (k : suc j ≤ i). omega (arith, up j i k l))))
      (le_of_suc-le-suc (lt_of_not-le (λ (k : suc i ≤ j). omega (arith, up i j k m))))

  pub ids_differ : {r : ℕ} → Rising r → {i j : ℕ} → i < t.corners → j < t.corners → i ≢ j → t.id r i ≢ t.id r j
  ids_differ up {i} {j} l m ne e = ne (one_corner up i j l m e)

  -- and lower ones stand at lower corners
  pub lower_first : {r : ℕ} → Rising r → (i j : ℕ) → i < t.corners → {a b : ℕ} → t.id r i ≡ a → t.id r j ≡ b → a < b → i < j
  lower_first {r} up i j l p q ab = go (lower_same_higher i j)
    where
      go : (i < j) ⊎ (i ≡ j) ⊎ (j < i) → i < j
      go (inl l) = l
      go (inr (inl e)) = absurd (omega (arith, ap (t.id r) e))
      go (inr (inr m)) = absurd (omega (arith, up j i m l))

  -- ---- dictionary order

  -- at some corner the id of row s is lower, and at each corner before it the ids are the same
  pub record Before (s r : ℕ) : Type 0 where
    pub corner : ℕ
    pub below : corner < t.corners
    pub same : (k : ℕ) → k < corner → t.id s k ≡ t.id r k
    pub lower : t.id s corner < t.id r corner

  pub before_reads : (s r : ℕ) → (before t s r ≡ true) ↔ Before s r
  unfolding before
  before_reads s r = (forth, back)
    where
      here : ℕ → Bool
      here c = all c (λ k. eqb (t.id s k) (t.id r k)) && ltb (t.id s c) (t.id r c)

      forth : before t s r ≡ true → Before s r
      forth e =
          let (c, l, q) = any_some t.corners here e in
          let first = and_first (all c (λ k. eqb (t.id s k) (t.id r k))) (ltb (t.id s c) (t.id r c)) q in
          record {
            corner = c;
            below = l;
            same = λ k m. eqb-true (t.id s k) (t.id r k) (all_each c (λ k. eqb (t.id s k) (t.id r k)) first k m);
            lower = ltb-true (t.id s c) (t.id r c) (and_second (all c (λ k. eqb (t.id s k) (t.id r k))) (ltb (t.id s c) (t.id r c)) q);
          }

      back : Before s r → before t s r ≡ true
      back b =
          any_here t.corners here b.corner b.below
          (and_both (each_all b.corner (λ k. eqb (t.id s k) (t.id r k)) (λ k l. eq-eqb (t.id s k) (t.id r k) (b.same k l)))
          (lt-ltb (t.id s b.corner) (t.id r b.corner) b.lower))

  -- ---- the ids that a row holds

  abbrev pub Holds : ℕ → ℕ → Type 0
  Holds r v = (c : ℕ) × (c < t.corners) × (t.id r c ≡ v)

  pub holds_reads : (r v : ℕ) → (holds t r v ≡ true) ↔ Holds r v
  unfolding holds
  holds_reads r v = (
    λ e. let (c, l, q) = any_some t.corners (λ c. eqb (t.id r c) v) e in (c, l, eqb-true (t.id r c) v q),
    λ (c, l, q). any_here t.corners (λ c. eqb (t.id r c) v) c l (eq-eqb (t.id r c) v q),
  )
