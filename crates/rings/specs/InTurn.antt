-- `find` over a range, where the closure asks of a number what its answers told of those before it. No contract cites this file: it rests on
-- std's proofs.
use Rattle.std.specs.Prelude.{◌≡◌, ℕ, ◌≤◌, ◌<◌, List, [], ◌∷◌}
use Rattle.std.proofs.Common.{sym, ap, ◌∙◌, subst, ⊎_elim, arith}
use Rattle.std.proofs.iter.Yields.{nat_range_steps}
use Rattle.std.specs.Iterator.{Yields, CallableAtEachTurn}
use Rattle.std.specs.List.{FoldsTo}
use Rattle.std.specs.declared.ops.Range.{Range}
use Rattle.rules.specs.Laws.Truth.{same_or_not}

walked : {P : Type 0} (R : P → ℕ → P → Type 0) (p : P) (No : ℕ → Type 0) → ((x : ℕ) (q : P) → R p x q → (q ≡ p) × No x)
    → (xs : List ℕ) (s t : Range ℕ) (q : P) → Yields nat_range_steps s xs t → FoldsTo R p xs q
    → (t.end ≡ s.end) × (s.start ≤ t.start) × (q ≡ p) × ((k : ℕ) → s.start ≤ k → k < t.start → No k)
walked R p No stays [] s t q y c =
    let same = ap (λ (r : Range ℕ). r.start) y in
    (sym (ap (λ (r : Range ℕ). r.end) y), omega (arith, same), sym c, λ k a b. absurd (omega (arith, a, b, same)))
walked R p No stays (x ∷ xs) s t q y c =
    let told = stays x c.0 c.1 in
    let h = walked R p No stays xs y.0 t q y.2 (subst (λ j. FoldsTo R j xs q) told.0 c.2) in (
      h.0 ∙ y.1.0,
      omega (arith, h.1, y.1.1.2),
      h.2,
      λ k a b. ⊎_elim (λ (e : k ≡ x). subst No (sym e) told.1) (λ ne. h.3 k (omega (arith, a, ne, y.1.1)) b) (same_or_not k x),
    )

-- R leaves p as it is, and what it told of the numbers before x may be used to ask of x
pub serves_in_turn : {P : Type 0} {R : P → ℕ → P → Type 0} {Q : P → ℕ → Type 0} {s : Range ℕ} {p : P} (No : ℕ → Type 0) → ((x : ℕ) (q : P) → R p x q → (q ≡ p) × No x)
    → ((x : ℕ) → s.start ≤ x → x < s.end → ((k : ℕ) → s.start ≤ k → k < x → No k) → Q p x) → CallableAtEachTurn nat_range_steps R Q s p
serves_in_turn {R = R} {Q = Q} {s = s} {p = p} No stays may = record {
  at = λ xs t q x u y c e.
      let w = walked R p No stays xs s t q y c in
      subst (λ j. Q j x) (sym w.2) (may x (omega (arith, w.1, e.1.1)) (omega (arith, w.0, e.1.0, e.1.1)) (λ k a b. w.3 k a (omega (arith, b, e.1.1))));
}
