-- `any` over a range of the first n numbers is what `rules` says of them. No contract cites this file: it rests on std's proofs.
use Rattle.std.specs.Prelude.{◌≡◌, Option, Bool, true, false, MatchOption, ℕ, ◌<◌, List, length, get_or}
use Rattle.std.proofs.Common.{sym, zero-add, arith}
use Rattle.std.proofs.iter.Yields.{nat_range_steps}
use Rattle.std.proofs.lemmas.Iterator.{cases_from_any, YieldsList-from_range}
use Rattle.std.proofs.lemmas.List.FromFn.{get_or-range_with_len, length-range_with_len}
use Rattle.std.specs.Bool.{MatchBool}
use Rattle.std.specs.Fn.{Called}
use Rattle.std.specs.Iterator.{YieldsThen}
use Rattle.std.specs.List.{FoldsTo, HoldsAt, AllWithin, range_with_len}
use Rattle.std.specs.declared.ops.Range.{Range}
use denote.Param.Members.{Mut}
use Rattle.rules.specs.Below.{any}
use Rattle.rules.specs.Laws.Below.{any_here, none_any}

-- where the closure answers p and stays as it is
pub any_asked : {F : Type 0} {g : Mut F (ℕ × Unit {0}) Bool} {s : Range ℕ} {f : F} (u : Range ℕ) (r : Bool) (n : ℕ) (p : ℕ → Bool) → s ≡ record { start = 0; end = n }
    → (xs : List ℕ) × (o : Option ℕ) × (j : F) × YieldsThen nat_range_steps s xs o u × FoldsTo (λ q x q'. Called g q (x, tt) false q') f xs j
    × MatchOption o (r ≡ false) (λ x. (r ≡ true) × ((h : F) × Called g j (x, tt) true h))
    → ((x : ℕ) (q : F) → Called g f (x, tt) true q → p x ≡ true) → ((x : ℕ) (q : F) → Called g f (x, tt) false q → (q ≡ f) × (p x ≡ false)) → r ≡ any n p
any_asked u r n p whole ran pass fail =
    by r (cases_from_any {all = range_with_len 0 n} u _ r (λ x. p x ≡ true) (λ x. p x ≡ false) ran (YieldsList-from_range 0 n n whole (omega arith)) pass fail)
  where
    by : (r : Bool) → MatchBool r ((k : ℕ) × (k < length (range_with_len 0 n)) × HoldsAt (λ x. p x ≡ true) (range_with_len 0 n) k)
        (AllWithin (λ x. p x ≡ false) (range_with_len 0 n) 0 (length (range_with_len 0 n))) → r ≡ any n p
    by true (k, l, h) =
        let m : k < n = rw length-range_with_len at l in
        let q : p (get_or (range_with_len 0 n) k 0) ≡ true = h 0 in
        sym (any_here n p k m (rw (get_or-range_with_len 0 n k 0 m, zero-add k) at q))
    by false h =
        sym (none_any n p (λ k l.
        let q : p (get_or (range_with_len 0 n) k 0) ≡ false = h k 0 (omega arith) (rw length-range_with_len l) in
        rw (get_or-range_with_len 0 n k 0 l, zero-add k) at q))
