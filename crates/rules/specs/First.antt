-- First match decides.
use Rattle.std.specs.Prelude.{ℕ, suc, Bool, List, [], ◌∷◌}
use Rattle.std.proofs.Math.Option.{Option, some, none}
use Rattle.rules.specs.Below.{found}

-- a test gives its place if it matches
abbrev pub Test : Type 0
Test = Unit {0} → Option ℕ

-- a test whose place is 0
unfoldable pub given : Bool → Option ℕ
given b = found b 0

pub record Verdict : Type 0 where
  pub code : ℕ
  pub place : ℕ

-- the number of the first test that matches, counted from `code`, with its place; 0 and 0 if none does
unfoldable pub first_match : ℕ → List Test → Verdict
first_match code [] = record { code = 0; place = 0 }
first_match code (test ∷ tests) =
    elim (test tt) [ some place ↦ record { code = code; place = place } | none ↦ first_match (suc code) tests ]
