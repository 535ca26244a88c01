-- No code exactly if no test matches.
use Rattle.std.specs.Prelude.{◌≡◌, Bool, false, ◌↔◌, List, [], ◌∷◌, ℕ, suc, ◌<◌}
use Rattle.std.proofs.Common.{ap, ◌∙◌, zero-lt-suc}
use Rattle.std.proofs.Math.Option.{none}
use Rattle.rules.specs.Below.{found}
use Rattle.rules.specs.First.{Test, given, Verdict, first_match}
use Rattle.rules.specs.Laws.First.{match_later, match_end, match_zero, given_none}

abbrev pub Silent : List Test → Type 0
Silent [] = Unit
Silent (test ∷ tests) = (test tt ≡ none) × Silent tests

-- then code and place are 0
pub silent_verdict : (code : ℕ) (tests : List Test) → Silent tests → first_match code tests ≡ record { code = 0; place = 0 }
silent_verdict code [] s = match_end code
silent_verdict code (test ∷ tests) (none_here, later) = match_later code test tests none_here ∙ silent_verdict (suc code) tests later

pub silent_exactly : (code : ℕ) → 0 < code → (tests : List Test) → ((first_match code tests).code ≡ 0) ↔ Silent tests
silent_exactly code above tests = (forth code above tests, λ s. ap (λ (v : Verdict). v.code) (silent_verdict code tests s))
  where
    forth : (code : ℕ) → 0 < code → (tests : List Test) → (first_match code tests).code ≡ 0 → Silent tests
    forth code above [] e = tt
    forth code above (test ∷ tests) e =
        let (none_here, later) = match_zero code above test tests e in (none_here, forth (suc code) (zero-lt-suc code) tests later)

-- a test whose place is 0
pub given_silent : (b : Bool) → (given b ≡ none) ↔ (b ≡ false)
unfolding given found
given_silent b = (given_none b, λ f. ap given f)
