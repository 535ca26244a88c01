-- First match decides: a code is given exactly if its condition holds and none before it does.
use Rattle.std.specs.Prelude.{◌≡◌, refl, ◌⊎◌, ◌↔◌, ◌≢◌, Bool, true, false, cond, List, [], ◌∷◌, ◌++◌, map, ℕ, zero, suc, ◌+◌, ◌≤◌, ◌<◌, length}
use Rattle.std.proofs.Common.{sym, ap, ◌∙◌, inl, inr, ⊎_elim, true≢false, suc-le-suc, le_refl, le_of_suc-le-suc, not-suc-le-zero, zero-lt-suc, add-zero, arith}
use Rattle.std.proofs.Math.Option.{Option, some, none}
use Rattle.rules.specs.Below.{found}
use Rattle.rules.specs.Laws.Truth.{same_or_not}
use Rattle.rules.specs.First.{Test, given, Verdict, first_match}

-- ---- one test after the other

pub match_here : (code : ℕ) (test : Test) (tests : List Test) (place : ℕ) → test tt ≡ some place
    → first_match code (test ∷ tests) ≡ record { code = code; place = place }
unfolding first_match
match_here code test tests place e = rw (e, first_match)

pub match_later : (code : ℕ) (test : Test) (tests : List Test) → test tt ≡ none → first_match code (test ∷ tests) ≡ first_match (suc code) tests
unfolding first_match
match_later code test tests e = rw (e, first_match)

pub match_end : (code : ℕ) → first_match code [] ≡ record { code = 0; place = 0 }
unfolding first_match
match_end code = refl

-- a test matches, or it does not
test_cases : (test : Test) → ((place : ℕ) × (test tt ≡ some place)) ⊎ (test tt ≡ none)
test_cases test = go (test tt) refl
  where
    go : (o : Option ℕ) → test tt ≡ o → ((place : ℕ) × (test tt ≡ some place)) ⊎ (test tt ≡ none)
    go (some place) e = inl (place, e)
    go none e = inr e

-- the code is 0, or that of a test
pub match_code : (code : ℕ) (tests : List Test) → ((first_match code tests).code ≡ 0) ⊎ (code ≤ (first_match code tests).code)
unfolding first_match
match_code code [] = inl refl
match_code code (test ∷ tests) =
    ⊎_elim (λ (place, e). inr (rw (match_here code test tests place e) (le_refl code)))
    (λ e. rw (match_later code test tests e) (⊎_elim inl (λ l. inr (omega arith)) (match_code (suc code) tests))) (test_cases test)

pub match_below : (code : ℕ) → 0 < code → (tests : List Test) → (first_match code tests).code < code + length tests
unfolding first_match
match_below code pos [] = omega arith
match_below code pos (test ∷ tests) =
    ⊎_elim (λ (place, e). rw (match_here code test tests place e) (omega arith))
    (λ e. rw (match_later code test tests e) (omega (arith, match_below (suc code) (zero-lt-suc code) tests))) (test_cases test)

-- code 0: the first test gave none, and nor did the rest
pub match_zero : (code : ℕ) → 0 < code → (test : Test) (tests : List Test) → (first_match code (test ∷ tests)).code ≡ 0
    → (test tt ≡ none) × ((first_match (suc code) tests).code ≡ 0)
match_zero code pos test tests e =
    ⊎_elim (λ (k, m). let z : code ≡ 0 = ap (λ (v : Verdict). v.code) (sym (match_here code test tests k m)) ∙ e in absurd (omega arith))
    (λ n. (n, ap (λ (v : Verdict). v.code) (sym (match_later code test tests n)) ∙ e)) (test_cases test)

-- no match has no place
pub match_none : (code : ℕ) → 0 < code → (tests : List Test) → (first_match code tests).code ≡ 0 → (first_match code tests).place ≡ 0
unfolding first_match
match_none code pos [] e = refl
match_none code pos (test ∷ tests) e =
    let (n, later) = match_zero code pos test tests e in
    ap (λ (v : Verdict). v.place) (match_later code test tests n) ∙ match_none (suc code) (zero-lt-suc code) tests later

-- ---- what the tests say

-- Conditions in the order of the tests: each test gives a place exactly if its condition holds there, and may rest on it that those before it gave none.
abbrev pub Reads : List Test → List (ℕ → Type 0) → Type 0
Reads [] [] = Unit
Reads [] (condition ∷ conditions) = ⊥
Reads (test ∷ tests) [] = ⊥
Reads (test ∷ tests) (condition ∷ conditions) = ((place : ℕ) → (test tt ≡ some place) ↔ condition place) × (test tt ≡ none → Reads tests conditions)

-- the condition with number i, counted from 0
abbrev pub condition_at : List (ℕ → Type 0) → ℕ → ℕ → Type 0
condition_at [] i place = ⊥
condition_at (condition ∷ conditions) zero place = condition place
condition_at (condition ∷ conditions) (suc i) place = condition_at conditions i place

-- condition i holds at the place, and none before it holds anywhere
pub record FirstOf (conditions : List (ℕ → Type 0)) (i place : ℕ) : Type 0 where
  pub holds : condition_at conditions i place
  pub none_before : (j : ℕ) → j < i → (other : ℕ) → condition_at conditions j other → ⊥

no_some : (test : Test) (place : ℕ) → test tt ≡ none → test tt ≡ some place → ⊥
no_some test place e f = let z : ◌≡◌ {A = ℕ} 0 1 = cc in omega arith

abbrev at : ℕ → ℕ → Verdict
at code place = record { code = code; place = place }

module _ (code : ℕ) (pos : 0 < code) (test : Test) (tests : List Test) (condition : ℕ → Type 0) (conditions : List (ℕ → Type 0))
    (here : (place : ℕ) → (test tt ≡ some place) ↔ condition place) where
  first_here : (place : ℕ) → (first_match code (test ∷ tests) ≡ at (code + 0) place) ↔ FirstOf (condition ∷ conditions) 0 place
  first_here place = (
    λ e. record { holds = ⊎_elim (matched e) (λ n. absurd (passed e n)) (test_cases test); none_before = λ j l. absurd (not-suc-le-zero l) },
    λ f. match_here code test tests place ((here place).1 f.holds) ∙ ap (λ (n : ℕ). at n place) (sym (add-zero code)),
  )
    where
      matched : first_match code (test ∷ tests) ≡ at (code + 0) place → (k : ℕ) × (test tt ≡ some k) → condition place
      matched e (k, m) = (here place).0 (m ∙ ap (λ (v : Verdict). some v.place) (sym (match_here code test tests k m) ∙ e))

      passed : first_match code (test ∷ tests) ≡ at (code + 0) place → test tt ≡ none → ⊥
      passed e n =
          let same : (first_match (suc code) tests).code ≡ code + 0 = ap (λ (v : Verdict). v.code) (sym (match_later code test tests n) ∙ e) in
          ⊎_elim (λ z. omega arith) (λ l. omega arith) (match_code (suc code) tests)

  first_later : (i place : ℕ) → (test tt ≡ none → (first_match (suc code) tests ≡ at (suc code + i) place) ↔ FirstOf conditions i place)
      → (first_match code (test ∷ tests) ≡ at (code + suc i) place) ↔ FirstOf (condition ∷ conditions) (suc i) place
  first_later i place later = (forth, back)
    where
      same : at (suc code + i) place ≡ at (code + suc i) place
      same = ap (λ (n : ℕ). at n place) (omega arith)

      matched : first_match code (test ∷ tests) ≡ at (code + suc i) place → (k : ℕ) × (test tt ≡ some k) → ⊥
      matched e (k, m) =
          let equal : code ≡ code + suc i = ap (λ (v : Verdict). v.code) (sym (match_here code test tests k m) ∙ e) in omega arith

      before : FirstOf conditions i place → test tt ≡ none → (j : ℕ) → j < suc i → (other : ℕ) → condition_at (condition ∷ conditions) j other → ⊥
      before f n zero l other c = no_some test other n ((here other).1 c)
      before f n (suc j) l other c = f.none_before j (le_of_suc-le-suc l) other c

      forth : first_match code (test ∷ tests) ≡ at (code + suc i) place → FirstOf (condition ∷ conditions) (suc i) place
      forth e =
          ⊎_elim (λ m. absurd (matched e m))
          (λ n. let f = (later n).0 (sym (match_later code test tests n) ∙ e ∙ sym same) in record { holds = f.holds; none_before = before f n }) (test_cases test)

      back : FirstOf (condition ∷ conditions) (suc i) place → first_match code (test ∷ tests) ≡ at (code + suc i) place
      back f =
          ⊎_elim (λ (k, m). absurd (f.none_before 0 (zero-lt-suc i) k ((here k).0 m)))
          (λ n.
          match_later code test tests n
          ∙ (later n).1 (record { holds = f.holds; none_before = λ j l other c. f.none_before (suc j) (suc-le-suc l) other c })
          ∙ same) (test_cases test)

-- code + i is given exactly if condition i holds and none before it does
pub first_reads : (code : ℕ) → 0 < code → (tests : List Test) (conditions : List (ℕ → Type 0)) → Reads tests conditions
    → (i place : ℕ) → i < length tests → (first_match code tests ≡ record { code = code + i; place = place }) ↔ FirstOf conditions i place
first_reads code pos [] conditions reads i place l = absurd (not-suc-le-zero l)
first_reads code pos (test ∷ tests) [] reads i place l = absurd reads
first_reads code pos (test ∷ tests) (condition ∷ conditions) (here, later) zero place l = first_here code pos test tests condition conditions here place
first_reads code pos (test ∷ tests) (condition ∷ conditions) (here, later) (suc i) place l =
    first_later code pos test tests condition conditions here i place (λ n.
    first_reads (suc code) (zero-lt-suc code) tests conditions (later n) i place (le_of_suc-le-suc l))

-- code 0 is given exactly if no condition holds
pub none_reads : (code : ℕ) → 0 < code → (tests : List Test) (conditions : List (ℕ → Type 0)) → Reads tests conditions
    → ((first_match code tests).code ≡ 0) ↔ ((i place : ℕ) → condition_at conditions i place → ⊥)
unfolding first_match
none_reads code pos [] [] reads = (λ _ i place c. c, λ _. refl)
none_reads code pos [] (condition ∷ conditions) reads = absurd reads
none_reads code pos (test ∷ tests) [] reads = absurd reads
none_reads code pos (test ∷ tests) (condition ∷ conditions) (here, later) =
    go (test_cases test) (λ n. none_reads (suc code) (zero-lt-suc code) tests conditions (later n))
  where
    go : ((k : ℕ) × (test tt ≡ some k)) ⊎ (test tt ≡ none)
        → (test tt ≡ none → ((first_match (suc code) tests).code ≡ 0) ↔ ((i place : ℕ) → condition_at conditions i place → ⊥))
        → ((first_match code (test ∷ tests)).code ≡ 0) ↔ ((i place : ℕ) → condition_at (condition ∷ conditions) i place → ⊥)
    go (inl (k, m)) rest = (
      λ e. let z : code ≡ 0 = ap (λ (v : Verdict). v.code) (sym (match_here code test tests k m)) ∙ e in absurd (omega arith),
      λ off. absurd (off 0 k ((here k).0 m)),
    )
    go (inr n) rest =
        let same : (first_match code (test ∷ tests)).code ≡ (first_match (suc code) tests).code = ap (λ (v : Verdict). v.code) (match_later code test tests n) in
        (λ e i place c. each i place c ((rest n).0 (sym same ∙ e)), λ off. same ∙ (rest n).1 (λ i place c. off (suc i) place c))
      where
        each : (i place : ℕ) → condition_at (condition ∷ conditions) i place → ((j other : ℕ) → condition_at conditions j other → ⊥) → ⊥
        each zero place c off = no_some test place n ((here place).1 c)
        each (suc i) place c off = off i place c

-- the code alone: its place is where the condition holds
pub code_reads : (code : ℕ) → 0 < code → (tests : List Test) (conditions : List (ℕ → Type 0)) → Reads tests conditions
    → (i : ℕ) → i < length tests → ((first_match code tests).code ≡ code + i) ↔ ((place : ℕ) × FirstOf conditions i place)
code_reads code pos tests conditions reads i l = (
  λ e.
      let place = (first_match code tests).place in
      (place, (first_reads code pos tests conditions reads i place l).0 (ap (λ (n : ℕ). at n place) e)),
  λ (place, f). ap (λ (v : Verdict). v.code) ((first_reads code pos tests conditions reads i place l).1 f),
)

-- ---- where a condition can hold

-- each condition holds only at places with the property, and may rest on it that those before it hold nowhere
abbrev pub Places : (ℕ → Type 0) → List (ℕ → Type 0) → Type 0
Places P [] = Unit
Places P (condition ∷ conditions) = ((place : ℕ) → condition place → P place) × (((place : ℕ) → condition place → ⊥) → Places P conditions)

pub first_place : (P : ℕ → Type 0) (conditions : List (ℕ → Type 0)) → Places P conditions → (i place : ℕ) → FirstOf conditions i place → P place
first_place P [] places i place f = absurd f.holds
first_place P (condition ∷ conditions) (here, later) zero place f = here place f.holds
first_place P (condition ∷ conditions) (here, later) (suc i) place f =
    first_place P conditions (later (f.none_before 0 (zero-lt-suc i))) i place
    (record { holds = f.holds; none_before = λ j l other c. f.none_before (suc j) (suc-le-suc l) other c })

-- a test whose place is 0
pub given_reads : {b : Bool} {P : Type 0} → (b ≡ true) ↔ P → (place : ℕ) → (given b ≡ some place) ↔ (P × (place ≡ 0))
unfolding given found
given_reads {b = true} (forth, back) place = (λ e. (forth refl, cc), λ (x, z). rw z)
given_reads {b = false} (forth, back) place = (
  λ e. let z : ◌≡◌ {A = ℕ} 0 1 = cc in absurd (omega arith),
  λ (x, z). let y : ◌≡◌ {A = ℕ} 0 1 = absurd (true≢false (sym (back x))) in absurd (omega arith),
)

pub given_none : (b : Bool) → given b ≡ none → b ≡ false
unfolding given found
given_none true e = let z : ◌≡◌ {A = ℕ} 0 1 = cc in absurd (omega arith)
given_none false e = refl

-- its code, or that of the tests behind it
given_code : (code : ℕ) (b : Bool) (tests : List Test) → (first_match code ((λ _. given b) ∷ tests)).code ≡ cond b code (first_match (suc code) tests).code
unfolding given found
given_code code true tests = ap (λ (v : Verdict). v.code) (match_here code (λ _. given true) tests 0 refl)
given_code code false tests = ap (λ (v : Verdict). v.code) (match_later code (λ _. given false) tests refl)

-- the number of the first of these that is true, counted from `code`, or else `other`
abbrev pub first_true : ℕ → List Bool → ℕ → ℕ
first_true code [] other = other
first_true code (b ∷ bs) other = cond b code (first_true (suc code) bs other)

-- tests whose places are 0, with others behind them
pub given_codes : (code : ℕ) (bs : List Bool) (tests : List Test)
    → (first_match code (map (λ b _. given b) bs ++ tests)).code ≡ first_true code bs (first_match (code + length bs) tests).code
given_codes code [] tests = ap (λ (n : ℕ). (first_match n tests).code) (sym (add-zero code))
given_codes code (b ∷ bs) tests =
    given_code code b _
    ∙ ap (λ (n : ℕ). cond b code n) (given_codes (suc code) bs tests ∙ ap (λ (n : ℕ). first_true (suc code) bs (first_match n tests).code) (omega arith))

-- ---- tests one group after the other

pub match_append : (code : ℕ) → 0 < code → (xs ys : List Test) → (first_match code xs).code ≡ 0 → first_match code (xs ++ ys) ≡ first_match (code + length xs) ys
match_append code pos [] ys e = ap (λ (n : ℕ). first_match n ys) (sym (add-zero code))
match_append code pos (test ∷ xs) ys e =
    ⊎_elim
    (λ (k, m). let z : code ≡ 0 = ap (λ (v : Verdict). v.code) (sym (match_here code test xs k m)) ∙ e in absurd (omega arith))
    (λ n.
    match_later code test (xs ++ ys) n
    ∙ match_append (suc code) (zero-lt-suc code) xs ys (ap (λ (v : Verdict). v.code) (sym (match_later code test xs n)) ∙ e)
    ∙ ap (λ (k : ℕ). first_match k ys) (omega arith))
    (test_cases test)

pub match_front : (code : ℕ) (xs ys : List Test) → (first_match code xs).code ≢ 0 → first_match code (xs ++ ys) ≡ first_match code xs
unfolding first_match
match_front code [] ys ne = absurd (ne refl)
match_front code (test ∷ xs) ys ne =
    ⊎_elim (λ (k, m). match_here code test (xs ++ ys) k m ∙ sym (match_here code test xs k m))
    (λ n.
    match_later code test (xs ++ ys) n
    ∙ match_front (suc code) xs ys (λ (z : (first_match (suc code) xs).code ≡ 0). ne (ap (λ (v : Verdict). v.code) (match_later code test xs n) ∙ z))
    ∙ sym (match_later code test xs n))
    (test_cases test)

-- where nothing matched, nothing matched in either group
pub match_parts : (code : ℕ) → 0 < code → (xs ys : List Test) → (first_match code (xs ++ ys)).code ≡ 0
    → ((first_match code xs).code ≡ 0) × ((first_match (code + length xs) ys).code ≡ 0)
match_parts code pos xs ys e =
    ⊎_elim (λ z. (z, ap (λ (v : Verdict). v.code) (sym (match_append code pos xs ys z)) ∙ e))
    (λ ne. absurd (ne (ap (λ (v : Verdict). v.code) (sym (match_front code xs ys ne)) ∙ e))) (same_or_not (first_match code xs).code 0)

pub match_both : (code : ℕ) → 0 < code → (xs ys : List Test) → (first_match code xs).code ≡ 0 → (first_match (code + length xs) ys).code ≡ 0 → (first_match code (xs ++ ys)).code ≡ 0
match_both code pos xs ys front back = ap (λ (v : Verdict). v.code) (match_append code pos xs ys front) ∙ back
