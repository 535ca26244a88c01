-- Laws of decimal numbers.
use Rattle.std.specs.Prelude.{◌≡◌, true, false, [], ◌∷◌, ◌++◌, ℕ, zero, suc, ◌+◌, ◌/◌, ◌%◌, ◌^◌, ◌≤◌, ◌<◌, ltb, length}
use Rattle.std.proofs.Common.{⊎_elim, not-suc-le-zero, arith, length-append, lt-ltb, le-ltb, ltb-true, ltb-false}
use Rattle.rules.specs.Laws.Truth.{true_or_false}
use Rattle.lines.specs.Listing.{spelled, decimal}

-- it does not matter how many digits there may be, if they are enough
spelled_same : (a b n : ℕ) → n < a → n < b → spelled a n ≡ spelled b n
unfolding spelled
spelled_same zero b n l m = absurd (not-suc-le-zero l)
spelled_same (suc a) zero n l m = absurd (not-suc-le-zero m)
spelled_same (suc a) (suc b) n l m =
    ⊎_elim (λ (t : ltb n 10 ≡ true). rw t) (λ (f : ltb n 10 ≡ false).
    let ten = ltb-false n 10 f in
    rw (f, spelled_same a b (n / 10) (omega arith) (omega arith)))
    (true_or_false (ltb n 10))

-- one digit
pub decimal_one : (n : ℕ) → n < 10 → decimal n ≡ (48 + n) ∷ []
unfolding decimal spelled
decimal_one n l = rw (lt-ltb n 10 l)

-- one digit more
pub decimal_more : (n : ℕ) → 10 ≤ n → decimal n ≡ decimal (n / 10) ++ ((48 + n % 10) ∷ [])
unfolding decimal spelled
decimal_more n l = rw (le-ltb n 10 l, spelled_same n (suc (n / 10)) (n / 10) (omega arith) (omega arith))

-- a number below 10 ^ k has at most k digits
pub few_digits : (k n : ℕ) → n < 10 ^ suc k → length (decimal n) ≤ suc k
few_digits zero n l = rw (decimal_one n (omega arith)) (omega arith)
few_digits (suc k) n l =
    ⊎_elim (λ (t : ltb n 10 ≡ true). rw (decimal_one n (ltb-true n 10 t)) (omega arith)) (λ (f : ltb n 10 ≡ false).
    rw (decimal_more n (ltb-false n 10 f), length-append (decimal (n / 10)) ((48 + n % 10) ∷ []))
    (omega (arith, few_digits k (n / 10) (omega arith))))
    (true_or_false (ltb n 10))
