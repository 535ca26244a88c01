-- Document 02 (vi) is kept: numbers, writing then reading, and reading then writing.
use Rattle.std.specs.Prelude.{◌≡◌, refl, Bool, true, false, ◌↔◌, List, ℕ, ◌*◌, ◌≤◌, ◌<◌, eqb, Float, ℤ, length, get_or, take, Result, Ok, Err, is_ok}
use Rattle.std.proofs.Common.{sym, ap₂, ◌∙◌, arith}
use Rattle.std.proofs.Math.Path.{ap}
use Rattle.std.proofs.Math.Option.{Option}
use Rattle.std.specs.Float.{binary32}
use Rattle.std.specs.Float.Ieee.{div, of_int, of_bits, to_bits, nan_bits}
use borrow.Author.Tests.{eqb-true, eq-eqb, ne_eqb}
use Rattle.rules.specs.First.{Verdict, first_match}
use Rattle.rules.specs.Job.{written}
use Rattle.rules.specs.Stl.{metres, bits_of, file_length, facets_of, file_of, write_tests, Wrote, write_facets, count_in, read_tests, units_in, Read, read_file}
use Rattle.rules.specs.Laws.Truth.{not_both}
use Rattle.rules.specs.Laws.Written.{written_length}
use Rattle.rules.specs.Laws.Stl.{file_length_lem}
use Rattle.rules.specs.Reading.Points.{range_reads}
use Rattle.grid.specs.Exact.{exact, comes_back}
use Rattle.grid.specs.Named.{units_exactly, off}
use Rattle.trips.proofs.Writable.{wrote_whole}
use Rattle.trips.proofs.Readable.{read_whole, read_verdict}
use Rattle.trips.proofs.Forth.{file_count, file_readable, file_units}
use Rattle.trips.proofs.Back.{units_length, units_file, units_writable}
use Rattle.trips.proofs.Trips.{Writable, wrote_exactly, Readable, read_exactly, wrote_front, read_front}
use Rattle.trips.specs.Worked.{minus_zero_off, infinity_off, minus_infinity_off}
use Rattle.stl.specs.declared.writer.Refusal as writer
use Rattle.stl.specs.declared.writer.Refusal.TheVariants as writing
use Rattle.stl.specs.Writing as stl_writing
use Rattle.stl.specs.declared.reader.Refusal as reader
use Rattle.stl.specs.declared.reader.Refusal.TheVariants as reading
use Rattle.stl.specs.Reading as stl_reading
use Rattle.demands.specs.Workshop.{Numbers, Filled, WrittenRead, ReadWritten}

abbrev wrote : Verdict → List ℕ → Wrote
wrote v left = record { verdict = v; left = left }

abbrev read : Verdict → ℕ → Option (Float × ℕ) → List ℤ → Read
read v facets off left = record { verdict = v; facets = facets; off = off; left = left }

-- ---- numbers

pub numbers : Numbers
unfolding metres bits_of div of_int of_bits to_bits
numbers = record {
  exact = λ u on. exact u ((range_reads u).1 on);
  zero_positive = refl;
  named = λ bits u.
      let (names, named) = units_exactly bits u in
      let (reads, read) = range_reads u in
      (λ x. let (on, e) = names x in (reads on, e), λ (on, e). named (read on, e));
  minus_zero_off = minus_zero_off;
  nan_off = λ bits nan. off bits (λ u (on, e). not_both nan (ap (nan_bits binary32) e ∙ (comes_back u on).number));
  infinities_off = (infinity_off, minus_infinity_off);
}

-- ---- a call is accepted exactly if its code is 0

pub wrote_code : (answer : Result (Unit {0}) writer.Refusal) → is_ok answer ≡ eqb (stl_writing.verdict_of answer).code 0
unfolding stl_writing.verdict_of
wrote_code (Ok _) = refl
wrote_code (Err writing.Facets) = refl
wrote_code (Err (writing.Number k)) = refl
wrote_code (Err writing.Room) = refl

pub read_code : (answer : Result ℕ reader.Refusal) → is_ok answer ≡ eqb (stl_reading.verdict_of answer).code 0
unfolding stl_reading.verdict_of
read_code (Ok n) = refl
read_code (Err reading.Length) = refl
read_code (Err reading.Header) = refl
read_code (Err reading.Room) = refl
read_code (Err (reading.NotZero f)) = refl
read_code (Err (reading.Off off)) = refl

-- ---- each call by itself: it is accepted exactly if its list or its file is one that is taken, and fills its buffer then

module _ (units : List ℤ) (file : List ℕ) {v : Verdict} {left : List ℕ} (is : wrote v left ≡ write_facets units file) where
  pub wrote_taken : {ok : Bool} → ok ≡ eqb v.code 0 → (ok ≡ true) ↔ Writable units (length file)
  unfolding write_facets
  wrote_taken told =
      let code = ap (λ (w : Wrote). w.verdict.code) is in (
        λ e. (wrote_exactly units (length file)).0 (sym code ∙ eqb-true v.code 0 (sym told ∙ e)),
        λ w. told ∙ eq-eqb v.code 0 (code ∙ (wrote_exactly units (length file)).1 w),
      )

  pub wrote_filled : Filled (Writable units (length file)) (file_of units) file left
  unfolding write_facets
  wrote_filled = (
    λ w. ap (λ (x : Wrote). x.left) (is ∙ wrote_whole units file w),
    λ no. ap (λ (x : Wrote). x.left) is ∙ rw (ne_eqb (first_match 1 (write_tests units (length file))).code 0 (λ e. no ((wrote_exactly units (length file)).0 e))),
  )

module _ (file : List ℕ) (units : List ℤ) {v : Verdict} {facets : ℕ} {off : Option (Float × ℕ)} {left : List ℤ} (is : read v facets off left ≡ read_file file units) where
  pub read_taken : {ok : Bool} → ok ≡ eqb v.code 0 → (ok ≡ true) ↔ Readable file (length units)
  read_taken told =
      let code = ap (λ (r : Read). r.verdict.code) is ∙ ap (λ (x : Verdict). x.code) (read_verdict file units) in (
        λ e. (read_exactly file (length units)).0 (sym code ∙ eqb-true v.code 0 (sym told ∙ e)),
        λ w. told ∙ eq-eqb v.code 0 (code ∙ (read_exactly file (length units)).1 w),
      )

  pub read_filled : Filled (Readable file (length units)) (units_in file) units left
  unfolding read_file
  read_filled = (
    λ r. ap (λ (x : Read). x.left) (is ∙ read_whole file units r),
    λ no. ap (λ (x : Read). x.left) is ∙ rw (ne_eqb (first_match 1 (read_tests file (length units))).code 0 (λ e. no ((read_exactly file (length units)).0 e))),
  )

-- ---- writing then reading

module _ (units : List ℤ) (file : List ℕ) (back : List ℤ) {v : Verdict} {left : List ℕ} (first : wrote v left ≡ write_facets units file) {done : Bool} (told : done ≡ eqb v.code 0) where
  pub not_written : done ≡ false → WrittenRead units file back false left back
  not_written refuses = record {
    both_exactly = (λ e. absurd (not_both e refl), λ (w, _). absurd (not_both ((wrote_taken units file first told).1 w) refuses));
    same_corners = (λ e. absurd (not_both e refl), λ _. refl);
    file_written = wrote_filled units file first;
  }

  module _ (yes : done ≡ true) where
    pub writable : Writable units (length file)
    writable = (wrote_taken units file first told).0 yes

    -- the file stands at the front of what is left
    file_front : (size : ℕ) → size ≡ file_length (facets_of units) → take size left ≡ file_of units
    file_front size e =
        ap₂ take e (ap (λ (w : Wrote). w.left) first)
        ∙ (wrote_front units file (sym (ap (λ (w : Wrote). w.verdict.code) first) ∙ eqb-true v.code 0 (sym told ∙ yes))).1

    pub file_fits : file_length (facets_of units) ≤ length left
    file_fits =
        let long = file_length_lem units in
        rw ((wrote_filled units file first).0 writable, written_length (file_of units) file (omega (arith, writable.roomy))) writable.roomy

    roomy : Readable (file_of units) (length back) → length units ≤ length back
    unfolding facets_of
    roomy r = omega (arith, r.roomy, file_count units (length file) writable, writable.whole)

    pub read_back : {size : ℕ} → size ≡ file_length (facets_of units)
        → {w : Verdict} {facets : ℕ} {off : Option (Float × ℕ)} {again : List ℤ} → read w facets off again ≡ read_file (take size left) back
        → {both : Bool} → both ≡ eqb w.code 0 → WrittenRead units file back both left again
    read_back {size} e {w} {facets} {off} {again} second both_told =
        let is : read w facets off again ≡ read_file (file_of units) back = second ∙ ap (λ (bytes : List ℕ). read_file bytes back) (file_front size e) in
        let (forth, from) = read_taken (file_of units) back is both_told in
        let (filled, kept) = read_filled (file_of units) back is in
        record {
          both_exactly = (λ e. (writable, roomy (forth e)), λ (_, l). from (file_readable units (length file) writable (length back) l));
          same_corners = (λ e. filled (forth e) ∙ ap (λ (xs : List ℤ). written xs back) (file_units units (length file) writable), λ ne. kept (λ r. ne (from r)));
          file_written = wrote_filled units file first;
        }

-- ---- reading then writing

module _ (file : List ℕ) (units : List ℤ) (again : List ℕ)
    {v : Verdict} {facets : ℕ} {off : Option (Float × ℕ)} {left : List ℤ} (first : read v facets off left ≡ read_file file units) {done : Bool} (told : done ≡ eqb v.code 0) where
  pub not_read : done ≡ false → ReadWritten file units again false left again
  not_read refuses = record {
    both_exactly = (λ e. absurd (not_both e refl), λ (r, _). absurd (not_both ((read_taken file units first told).1 r) refuses));
    same_bytes = (λ e. absurd (not_both e refl), λ _. refl);
    units_read = read_filled file units first;
  }

  module _ (yes : done ≡ true) where
    pub readable : Readable file (length units)
    readable = (read_taken file units first told).0 yes

    -- the units stand at the front of what is left
    units_front : (size : ℕ) → size ≡ 9 * count_in file → take size left ≡ units_in file
    units_front size e =
        ap₂ take e (ap (λ (r : Read). r.left) first)
        ∙ (read_front file units (sym (ap (λ (r : Read). r.verdict.code) first) ∙ eqb-true v.code 0 (sym told ∙ yes))).2

    pub units_fit : 9 * count_in file ≤ length left
    units_fit =
        let long = units_length file in
        rw ((read_filled file units first).0 readable, written_length (units_in file) units (omega (arith, readable.roomy))) readable.roomy

    roomy_again : Writable (units_in file) (length again) → length file ≤ length again
    unfolding facets_of
    roomy_again w = omega (arith, w.roomy, units_length file, readable.long)

    pub write_again : ((k : ℕ) → get_or file k 0 < 256) → {size : ℕ} → size ≡ 9 * count_in file → {w : Verdict} {bytes : List ℕ} → wrote w bytes ≡ write_facets (take size left) again
        → {both : Bool} → both ≡ eqb w.code 0 → ReadWritten file units again both left bytes
    write_again small {size} e {w} {bytes} second both_told =
        let is : wrote w bytes ≡ write_facets (units_in file) again = second ∙ ap (λ (xs : List ℤ). write_facets xs again) (units_front size e) in
        let (forth, from) = wrote_taken (units_in file) again is both_told in
        let (filled, kept) = wrote_filled (units_in file) again is in
        record {
          both_exactly = (λ e. (readable, roomy_again (forth e)), λ (_, l). from (units_writable file (length units) (length again) readable l));
          same_bytes = (λ e. filled (forth e) ∙ ap (λ (xs : List ℕ). written xs again) (units_file file small (length units) readable), λ ne. kept (λ r. ne (from r)));
          units_read = read_filled file units first;
        }
