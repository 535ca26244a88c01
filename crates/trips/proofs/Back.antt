-- The file of what a file is read as is that file.
use Rattle.std.specs.Prelude.{◌≡◌, pos, length, get_or, replicate}
use Rattle.std.proofs.Math.Path.{sym, ap}
use Rattle.std.proofs.Common.{◌∙◌, drop-drop}
use mathlib.Core.List.{List, ◌++◌}
use Prim.Native.Nat.{ℕ, ◌+◌, ◌*◌, ◌/◌, ◌%◌, ◌≤◌, ◌<◌}
use native.Mathlib.Omega.{arith}
use Rattle.std.proofs.Math.ListN.{drop, take-append-drop}
use Rattle.rules.specs.Below.{gather}
use Rattle.rules.specs.Words.{bytes_of}
use Rattle.rules.specs.Job.{section}
use Rattle.rules.specs.Stl.{bits_of, facet_bytes, header, facets_of, file_of, count_in, facet_at, number_at, bits_at, units_of, unit_at, units_in}
use Rattle.rules.specs.Reading.Points.{InRange, range_reads}
use Rattle.rules.specs.Laws.Lists.{tabulate_at, tabulate_length, gather_same}
use Rattle.trips.specs.Parts.{section_split, sections, sections_behind, section_word}
use Rattle.trips.specs.Writable.{Writable}
use Rattle.trips.specs.Readable.{Sound, Readable}

-- ---- the units that are read

pub units_length : (bytes : List ℕ) → length (units_in bytes) ≡ 9 * count_in bytes
unfolding units_in
units_length bytes = tabulate_length (9 * count_in bytes) (unit_at bytes)

units_facets : (bytes : List ℕ) → facets_of (units_in bytes) ≡ count_in bytes
unfolding facets_of
units_facets bytes = omega (arith, units_length bytes)

-- number k of facet f
unit_read : (bytes : List ℕ) (f k : ℕ) → f < count_in bytes → k < 9 → get_or (units_in bytes) (9 * f + k) (pos 0) ≡ units_of (bits_at bytes f k)
unfolding units_in unit_at
unit_read bytes f k l m =
    let facet : (9 * f + k) / 9 ≡ f = omega arith in
    let number : (9 * f + k) % 9 ≡ k = omega arith in
    tabulate_at (9 * count_in bytes) (unit_at bytes) (pos 0) (9 * f + k) (omega arith)
    ∙ ap (λ (i : ℕ). units_of (bits_at bytes i ((9 * f + k) % 9))) facet
    ∙ ap (λ (i : ℕ). units_of (bits_at bytes f i)) number

-- ---- a sound facet is the one that is written for its units

module _ (bytes : List ℕ) (small : (k : ℕ) → get_or bytes k 0 < 256) where
  facet_section : (f : ℕ) → f < count_in bytes → facet_at f + 50 ≤ length bytes → Sound bytes f → section bytes (facet_at f) 50 ≡ facet_bytes (units_in bytes) (9 * f)
  unfolding facet_bytes bits_at
  facet_section f l fits s =
      let behind : p + 12 + 36 ≡ p + 48 = omega arith in
      section_split bytes p 12 38
      ∙ ap (λ (rest : List ℕ). section bytes p 12 ++ rest) (section_split bytes (p + 12) 36 2 ∙ ap (λ (q : ℕ). section bytes (p + 12) 36 ++ section bytes q 2) behind)
      ∙ rw (normal, numbers, attribute)
    where
      p : ℕ
      p = facet_at f

      normal : section bytes p 12 ≡ replicate 12 0
      normal = section_word bytes small p 12 (omega arith) ∙ ap (bytes_of 12) s.normal

      attribute : section bytes (p + 48) 2 ≡ replicate 2 0
      attribute = section_word bytes small (p + 48) 2 (omega arith) ∙ ap (bytes_of 2) s.attribute

      number : (k : ℕ) → k < 9 → section bytes (number_at f k) 4 ≡ bytes_of 4 (bits_of (get_or (units_in bytes) (9 * f + k) (pos 0)))
      number k m =
          section_word bytes small (number_at f k) 4 (omega arith)
          ∙ ap (bytes_of 4) ((s.numbers k m).1 ∙ ap bits_of (sym (unit_read bytes f k l m)))

      numbers : section bytes (p + 12) 36 ≡ gather 9 (λ k. bytes_of 4 (bits_of (get_or (units_in bytes) (9 * f + k) (pos 0))))
      numbers = sections bytes (p + 12) 4 9 ∙ gather_same 9 _ _ number

  -- ---- the whole file

  pub units_file : (room : ℕ) → Readable bytes room → file_of (units_in bytes) ≡ bytes
  unfolding file_of count_in
  units_file room r =
      ap (λ (m : ℕ). header ++ (bytes_of 4 m ++ gather m facet)) (units_facets bytes)
      ∙ ap (λ (rest : List ℕ). header ++ (bytes_of 4 n ++ rest)) (sym facets ∙ sym (drop-drop 4 80 bytes))
      ∙ ap (λ (four : List ℕ). header ++ (four ++ drop 4 (drop 80 bytes))) (sym counted)
      ∙ ap (λ (rest : List ℕ). header ++ rest) (take-append-drop 4 (drop 80 bytes))
      ∙ ap (λ (front : List ℕ). front ++ drop 80 bytes) (sym r.headed)
      ∙ take-append-drop 80 bytes
    where
      n : ℕ
      n = count_in bytes

      facet : ℕ → List ℕ
      facet f = facet_bytes (units_in bytes) (9 * f)

      counted : section bytes 80 4 ≡ bytes_of 4 n
      counted = section_word bytes small 80 4 (omega (arith, r.long))

      facets : drop 84 bytes ≡ gather n facet
      facets = sections_behind bytes 84 50 n r.long ∙ gather_same n _ facet (λ f l. facet_section f l (omega (arith, r.long)) (r.sound f l))

-- what is read is on the grid
units_on : (bytes : List ℕ) (room : ℕ) → Readable bytes room → (k : ℕ) → k < length (units_in bytes) → InRange (get_or (units_in bytes) k (pos 0))
unfolding units_in unit_at
units_on bytes room r k l =
    let below : k < 9 * count_in bytes = omega (arith, units_length bytes) in
    rw (tabulate_at (9 * count_in bytes) (unit_at bytes) (pos 0) k below) ((range_reads _).0 ((r.sound (k / 9) (omega arith)).numbers (k % 9) (omega arith)).0)

-- the facet writer takes what is read
pub units_writable : (bytes : List ℕ) (room again : ℕ) → Readable bytes room → length bytes ≤ again → Writable (units_in bytes) again
units_writable bytes room again r l = record {
  whole = omega (arith, units_length bytes);
  few = omega (arith, units_facets bytes, r.few);
  on = units_on bytes room r;
  roomy = omega (arith, units_facets bytes, r.long);
}
