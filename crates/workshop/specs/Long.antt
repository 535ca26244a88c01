-- A file that is longer than any that is read: its front alone gets the same answer.
use Rattle.std.specs.Prelude.{◌≡◌, true, List, ℕ, ◌≤◌, ◌<◌, ℤ, length, take, Err}
use Rattle.std.proofs.Math.Path.{refl}
use Rattle.std.proofs.Common.{sym, ◌∙◌, arith, length-take-le}
use Rattle.rules.specs.Stl.{most_facets, file_length, ill_sized, read_file}
use Rattle.rules.specs.Laws.Truth.{is_true}
use Rattle.trips.specs.Readable.{sized_exactly}
use Rattle.stl.specs.Reading.{reading, left_by, verdict_of, told, told_reading}
use Rattle.stl.specs.declared.reader.Refusal.TheVariants.{Length}
use Rattle.workshop.specs.Said.{zeros, file_refused, file_said}

module _ (bytes : List ℕ) (long : file_length most_facets < length bytes) where
  ill_sized_lem : ill_sized bytes ≡ true
  ill_sized_lem = is_true (ill_sized bytes) (λ f. let (sized, few) = (sized_exactly bytes).0 f in omega (arith, sized, few))

  -- it is refused for its length
  pub long_refused : (lent : List ℤ) → told (Err Length) lent ≡ read_file bytes lent
  unfolding reading left_by
  long_refused lent = told_reading bytes lent {a = Err Length} (rw ill_sized_lem) {left = lent} refl

-- one byte more than the longest file has is enough
module _ (n : ℕ) (input : List ℕ) (large : file_length most_facets < n) (whole : n ≤ length input) where
  long_front : (lent : List ℤ) → told (Err Length) lent ≡ read_file (take n input) lent
  long_front = long_refused (take n input) (rw (length-take-le n input whole) large)

  pub front_enough : (lent : List ℤ) → read_file (take n input) lent ≡ read_file input lent
  front_enough lent = sym (long_front lent) ∙ long_refused input (omega arith) lent

  pub said_enough : file_said (take n input) ≡ file_said input
  unfolding file_said file_refused verdict_of
  said_enough = rw (← long_front zeros, ← long_refused input (omega arith) zeros)
