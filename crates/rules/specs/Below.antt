-- Numbers below a bound.
-- Each definition goes down from n, so that its law for one more number is the definition itself.
use Rattle.std.specs.Prelude.{ℕ, zero, suc, ◌+◌, Bool, true, false, ◌&&◌, ◌||◌, cond, List, [], ◌∷◌, ◌++◌, eqb}
use Rattle.std.proofs.Math.Option.{Option, some, none}

-- what was found, or else the other
unfoldable pub or_else : Option ℕ → Option ℕ → Option ℕ
or_else (some k) other = some k
or_else none other = other

-- k, if the test was passed
unfoldable pub found : Bool → ℕ → Option ℕ
found true k = some k
found false k = none

-- the lowest number below n that passes
unfoldable pub lowest : ℕ → (ℕ → Bool) → Option ℕ
lowest zero p = none
lowest (suc n) p = or_else (lowest n p) (found (p n) n)

-- some number below n passes
unfoldable pub any : ℕ → (ℕ → Bool) → Bool
any zero p = false
any (suc n) p = any n p || p n

-- every number below n passes
unfoldable pub all : ℕ → (ℕ → Bool) → Bool
all zero p = true
all (suc n) p = all n p && p n

-- every number below n but c passes
unfoldable pub all_but : ℕ → (ℕ → Bool) → ℕ → Bool
all_but n p c = all n (λ k. eqb k c || p k)

-- 1 if the test was passed, 0 if not
unfoldable pub bit : Bool → ℕ
bit b = cond b 1 0

-- f 0 + f 1 + .. + f (n - 1)
unfoldable pub sum : ℕ → (ℕ → ℕ) → ℕ
sum zero f = 0
sum (suc n) f = sum n f + f n

-- how many numbers below n pass
unfoldable pub count : ℕ → (ℕ → Bool) → ℕ
count n p = sum n (λ k. bit (p k))

-- the lists f 0, f 1, .., f (n - 1), one after the other
unfoldable pub gather {ℓ} : {A : Type ℓ} → ℕ → (ℕ → List A) → List A
gather zero f = []
gather (suc n) f = gather n f ++ f n

-- the list f 0, f 1, .., f (n - 1)
unfoldable pub tabulate {ℓ} : {A : Type ℓ} → ℕ → (ℕ → A) → List A
tabulate n f = gather n (λ k. f k ∷ [])

-- x alone, if the test was passed
unfoldable pub only {ℓ} : {A : Type ℓ} → Bool → A → List A
only b x = cond b (x ∷ []) []

-- the numbers below n that pass, rising
unfoldable pub pick : ℕ → (ℕ → Bool) → List ℕ
pick n p = gather n (λ k. only (p k) k)
