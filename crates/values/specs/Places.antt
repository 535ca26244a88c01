-- What a search gives, as `rules` has it.
use Rattle.std.specs.Prelude.{◌≡◌, refl, ℕ, Option, Some, None}
use Rattle.std.proofs.Common.{arith}
use Rattle.std.proofs.Math.Option as rules

-- a place that was found, or none
abbrev pub place_of : Option ℕ → rules.Option ℕ
place_of (Some r) = rules.some r
place_of None = rules.none

pub some_none : {r : ℕ} → Some r ≡ None → ⊥
some_none e = let z : ◌≡◌ {A = ℕ} 0 1 = cc in omega arith

pub none_of : {o : Option ℕ} → ((r : ℕ) → o ≡ Some r → ⊥) → o ≡ None
none_of {o = None} n = refl
none_of {o = Some r} n = absurd (n r refl)
