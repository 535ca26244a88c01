-- What `all` answers over the numbers below n. No contract cites this file: it rests on std's proofs.
use Rattle.std.specs.Prelude.{◌≡◌, ℕ, ◌<◌, Option, Bool, true, false, MatchOption, MatchBool, List, length, get_or}
use Rattle.std.proofs.Common.{sym, ◌∙◌, subst, zero-add, arith}
use Rattle.std.proofs.iter.Yields.{nat_range_steps}
use Rattle.std.proofs.lemmas.List.FromFn.{length-range_with_len, get_or-range_with_len}
use Rattle.std.proofs.lemmas.Iterator.{cases_from_all, YieldsList-from_range}
use Rattle.std.specs.Fn.{Called}
use Rattle.std.specs.Iterator.{YieldsThen}
use Rattle.std.specs.List.{FoldsTo, AllWithin, HoldsAt, range_with_len}
use Rattle.std.specs.declared.ops.Range.{Range}
use denote.Param.Members.{Mut}
use Rattle.rules.specs.Below.{all}
use Rattle.rules.specs.Laws.Below.{each_all, fails_all}

pub all_asked : {F : Type 0} {g : Mut F (ℕ × Unit {0}) Bool} {s : Range ℕ} {f : F} (u : Range ℕ) (r : Bool) (n : ℕ) (p : ℕ → Bool)
    → s ≡ record { start = 0; end = n }
    → (xs : List ℕ) × (o : Option ℕ) × (j : F) × YieldsThen nat_range_steps s xs o u × FoldsTo (λ p x q. Called g p (x, tt) true q) f xs j × MatchOption o (r ≡ true) (λ x. (r ≡ false) × ((h : F) × Called g j (x, tt) false h))
    → ((x : ℕ) (q : F) → Called g f (x, tt) true q → (q ≡ f) × (p x ≡ true)) → ((x : ℕ) (q : F) → Called g f (x, tt) false q → p x ≡ false)
    → r ≡ all n p
all_asked {f = f} u r n p is ran pass fail =
    by r (cases_from_all u f r (λ k. p k ≡ true) (λ k. p k ≡ false) ran (YieldsList-from_range 0 n n is (omega arith)) pass fail)
  where
    numbers : List ℕ
    numbers = range_with_len 0 n

    long : length numbers ≡ n
    long = length-range_with_len 0 n

    at : (k : ℕ) → k < n → get_or numbers k 0 ≡ k
    at k l = get_or-range_with_len 0 n k 0 l ∙ zero-add k

    by : (r : Bool) → MatchBool r (AllWithin (λ k. p k ≡ true) numbers 0 (length numbers)) ((k : ℕ) × (k < length numbers) × HoldsAt (λ k. p k ≡ false) numbers k) → r ≡ all n p
    by true h = sym (each_all n p (λ k l. subst (λ (x : ℕ). p x ≡ true) (at k l) (h k 0 (omega arith) (omega (arith, long)))))
    by false (k, l, h) = let m : k < n = omega (arith, long) in sym (fails_all n p k m (subst (λ (x : ℕ). p x ≡ false) (at k m) (h 0)))
