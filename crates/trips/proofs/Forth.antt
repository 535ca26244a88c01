-- The file of a list is read as that list.
use Rattle.std.specs.Prelude.{◌≡◌, ℕ, ◌+◌, ◌*◌, ◌/◌, ◌%◌, ◌≤◌, ◌<◌, ℤ, pos, length, replicate}
use Rattle.std.proofs.Math.Path.{refl, ap}
use Rattle.std.proofs.Common.{sym, ◌∙◌, add-zero}
use mathlib.Core.List.{List, [], ◌++◌, append-nil}
use native.Mathlib.Omega.{arith}
use Rattle.std.proofs.Math.ListN.{get_or}
use Rattle.std.proofs.Math.Seq.{take_at}
use Rattle.rules.specs.Below.{gather}
use Rattle.rules.specs.Words.{word, bytes_of}
use Rattle.rules.specs.Stl.{bits_of, header, facet_bytes, file_length, facets_of, file_of, count_in, facet_at, bits_at, unit_at, units_in}
use Rattle.rules.specs.Reading.Points.{range_reads}
use Rattle.rules.specs.Laws.Words.{bytes_length, word_after, word_bytes}
use Rattle.rules.specs.Laws.Lists.{tabulate_is}
use Rattle.rules.specs.Laws.Stl.{header_length, facet_length, file_length_lem}
use Rattle.grid.specs.Named.{Names, named_on, not_off, bits_small}
use Rattle.trips.specs.Parts.{gathered_word}
use Rattle.trips.specs.Writable.{Writable}
use Rattle.trips.specs.Readable.{Sound, Readable}

-- ---- a facet's own words

facet_number : (units : List ℤ) (from k : ℕ) → k < 9 → word 4 (facet_bytes units from) (12 + 4 * k) ≡ bits_of (get_or units (from + k) (pos 0))
unfolding facet_bytes
facet_number units from k l =
    word_after 4 (replicate 12 0) (gather 9 number ++ replicate 2 0) (12 + 4 * k) (4 * k) refl
    ∙ ap (word 4 (gather 9 number ++ replicate 2 0)) (sym (add-zero (4 * k)))
    ∙ gathered_word 4 number (λ j. bytes_length 4 (bits j)) 9 k l (replicate 2 0) 4 0 (omega arith)
    ∙ ap (λ (bytes : List ℕ). word 4 bytes 0) (sym (append-nil (number k)))
    ∙ word_bytes 4 (bits k) [] (bits_small (get_or units (from + k) (pos 0)))
  where
    bits : ℕ → ℕ
    bits j = bits_of (get_or units (from + j) (pos 0))

    number : ℕ → List ℕ
    number j = bytes_of 4 (bits j)

facet_normal : (units : List ℤ) (from : ℕ) → word 12 (facet_bytes units from) 0 ≡ 0
unfolding facet_bytes word
facet_normal units from = refl

facet_attribute : (units : List ℤ) (from : ℕ) → word 2 (facet_bytes units from) 48 ≡ 0
unfolding facet_bytes gather word
facet_attribute units from = refl

-- ---- the file's words

module _ (units : List ℤ) where
  facet_word : (f : ℕ) → f < facets_of units → (width place : ℕ) → place + width ≤ 50
      → word width (file_of units) (facet_at f + place) ≡ word width (facet_bytes units (9 * f)) place
  unfolding file_of
  facet_word f l width place fits =
      let n = facets_of units in
      let facets = gather n (λ i. facet_bytes units (9 * i)) in
      word_after width header (bytes_of 4 n ++ facets) (facet_at f + place) (4 + (50 * f + place)) (omega (arith, header_length))
      ∙ word_after width (bytes_of 4 n) facets (4 + (50 * f + place)) (50 * f + place) refl
      ∙ ap (λ (bytes : List ℕ). word width bytes (50 * f + place)) (sym (append-nil facets))
      ∙ gathered_word 50 (λ i. facet_bytes units (9 * i)) (λ i. facet_length units (9 * i)) n f l [] width place fits

module _ (units : List ℤ) (room : ℕ) (w : Writable units room) where
  abbrev bytes : List ℕ
  bytes = file_of units

  pub file_count : count_in bytes ≡ facets_of units
  unfolding count_in file_of
  file_count =
      let n = facets_of units in
      let facets = gather n (λ f. facet_bytes units (9 * f)) in
      word_after 4 header (bytes_of 4 n ++ facets) 80 0 (omega (arith, header_length)) ∙ word_bytes 4 n facets (omega (arith, w.few))

  whole_facets : length units ≡ 9 * facets_of units
  unfolding facets_of
  whole_facets = omega (arith, w.whole)

  -- number k of facet f is written for unit 9 f + k of the list
  file_number : (f k : ℕ) → f < facets_of units → k < 9 → Names (bits_at bytes f k) (get_or units (9 * f + k) (pos 0))
  unfolding bits_at
  file_number f k l m =
      let place : facet_at f + 12 + 4 * k ≡ facet_at f + (12 + 4 * k) = omega arith in (
        (range_reads (get_or units (9 * f + k) (pos 0))).1 (w.on (9 * f + k) (omega (arith, whole_facets))),
        ap (word 4 bytes) place ∙ facet_word units f l 4 (12 + 4 * k) (omega arith) ∙ facet_number units (9 * f) k m,
      )

  file_sound : (f : ℕ) → f < facets_of units → Sound bytes f
  file_sound f l = record {
    normal = ap (word 12 bytes) (sym (add-zero (facet_at f))) ∙ facet_word units f l 12 0 (omega arith) ∙ facet_normal units (9 * f);
    attribute = facet_word units f l 2 48 (omega arith) ∙ facet_attribute units (9 * f);
    numbers = λ k m. not_off (bits_at bytes f k) (named_on (bits_at bytes f k) (get_or units (9 * f + k) (pos 0)) (file_number f k l m)).0;
  }

  -- the reader takes the file
  pub file_readable : (again : ℕ) → length units ≤ again → Readable bytes again
  unfolding file_of
  file_readable again l =
      let n = facets_of units in
      record {
        long = file_length_lem units ∙ ap file_length (sym file_count);
        few = rw file_count w.few;
        headed = take_at header (bytes_of 4 n ++ gather n (λ f. facet_bytes units (9 * f))) 80 header_length;
        roomy = omega (arith, file_count, whole_facets);
        sound = λ f m. file_sound f (rw file_count at m);
      }

  -- and reads the list
  pub file_units : units_in bytes ≡ units
  unfolding units_in unit_at
  file_units = tabulate_is (9 * count_in bytes) (unit_at bytes) (pos 0) units (omega (arith, whole_facets, file_count)) (λ k l. same k (omega (arith, file_count)))
    where
      same : (k : ℕ) → k < 9 * facets_of units → unit_at bytes k ≡ get_or units k (pos 0)
      same k l =
          let split : 9 * (k / 9) + k % 9 ≡ k = omega arith in
          (named_on (bits_at bytes (k / 9) (k % 9)) _ (file_number (k / 9) (k % 9) (omega arith) (omega arith))).1 ∙ ap (λ (j : ℕ). get_or units j (pos 0)) split
