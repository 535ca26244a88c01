-- The reader's answers, and what is said of each.
use Rattle.std.specs.Prelude.{◌≡◌, Bool, true, false, ℕ, ◌*◌, ◌≤◌, eqb, ℤ, pos, take, drop, replicate, Result, Ok}
use Rattle.std.proofs.Math.Path.{sym, ap}
use Rattle.std.proofs.Common.{◌∙◌, length-take-le}
use mathlib.Core.List.{List}
use native.Mathlib.Omega.{arith}
use Rattle.std.proofs.Math.ListN.{length, length-replicate, length-append}
use Rattle.rules.specs.Job.{written}
use Rattle.rules.specs.Stl.{count_in, units_in, Read, read_file}
use Rattle.lines.specs.Listing.{line, word_refused}
use Rattle.lines.specs.Facets.{facets_text}
use Rattle.lines.specs.Put.{front_within}
use Rattle.stl.specs.Reading.{verdict_of, facets_in, told}
use Rattle.stl.specs.declared.reader.Refusal.{Refusal}
use Rattle.trips.proofs.Readable.{read_exactly, read_verdict}
use Rattle.trips.proofs.Back.{units_length}
use Rattle.trips.proofs.Trips.{read_front}
use Rattle.workshop.specs.Said.{zeros, refusal, file_refused, file_said, Says}

-- ---- a refusal

pub refusal_said : (bytes : List ℕ) {a b : Result ℕ Refusal} → a ≡ b → {left : List ℤ} → told a left ≡ read_file bytes (replicate 36864 (pos 0)) → eqb (verdict_of b).code 0 ≡ false
    → {numbers : List ℕ} → numbers ≡ refusal (told b left) → {out out' : List ℕ} {size : ℕ} {no : Bool}
    → Says (line word_refused numbers) true out size no out' → Says (file_said bytes) (file_refused bytes) out size no out'
unfolding file_said file_refused zeros
refusal_said bytes {b = b} variant {left} is code e s =
    let answer : told b left ≡ read_file bytes (replicate 36864 (pos 0)) = rw variant at is in
    rw (← answer, code, ← e) s

-- ---- a file that is read

module _ (bytes : List ℕ) {a : Result ℕ Refusal} {facets : ℕ} (variant : a ≡ Ok facets) {left : List ℤ} (is : told a left ≡ read_file bytes (replicate 36864 (pos 0))) where
  answer : told (Ok facets) left ≡ read_file bytes zeros
  unfolding zeros
  answer = rw variant at is

  code : (read_file bytes zeros).verdict.code ≡ 0
  unfolding verdict_of
  code = sym (ap (λ (r : Read). r.verdict.code) answer)

  facets_is : facets ≡ count_in bytes
  unfolding facets_in
  facets_is = ap (λ (r : Read). r.facets) answer ∙ (read_front bytes zeros code).1

  left_is : left ≡ (read_file bytes zeros).left
  left_is = ap (λ (r : Read). r.left) answer

  few : 9 * facets ≤ 36864
  unfolding zeros
  few = omega (arith, facets_is, ((read_exactly bytes (length zeros)).0 (rw (read_verdict bytes zeros) at code)).roomy, length-replicate {A = ℤ} 36864 (pos 0))

  pub within : 9 * facets ≤ length left
  unfolding written
  within =
      omega (
        arith,
        facets_is,
        ap length (left_is ∙ (read_front bytes zeros code).0),
        length-append (units_in bytes) (drop (length (units_in bytes)) zeros),
        units_length bytes,
      )

  -- seven characters a number
  pub room : 7 * length (take (9 * facets) left) ≤ 258048
  room = rw (length-take-le (9 * facets) left within) (omega (arith, few))

  units_is : take (9 * facets) left ≡ units_in bytes
  units_is = rw (facets_is, left_is) (read_front bytes zeros code).2

  pub facets_said : {out out' : List ℕ} {size : ℕ}
      → (size ≡ length (facets_text (take (9 * facets) left))) × (out' ≡ written (facets_text (take (9 * facets) left)) out) → Says (file_said bytes) (file_refused bytes) out size false out'
  unfolding file_said file_refused
  facets_said {out} (size, after) =
      let text : facets_text (take (9 * facets) left) ≡ file_said bytes = rw (units_is, code) in
      record { size_is = size ∙ ap length text; no_is = rw code; after_is = after ∙ ap (λ (t : List ℕ). written t out) text }

-- ---- what is said lies within its buffer

pub says_within : {text before after : List ℕ} {size : ℕ} {refusal no : Bool} → Says text refusal before size no after → size ≤ length after
says_within {text} {before} s = front_within text before (s.size_is, s.after_is)
