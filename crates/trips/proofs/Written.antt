-- The facet writer, worked: each code with its place, first match decides, the most facets, and the whole file of one facet.
use Rattle.std.specs.Prelude.{◌≡◌, refl, not, ◌||◌, List, [], ◌∷◌, ◌++◌, ℕ, ◌*◌, ◌/◌, ◌%◌, ◌≤◌, eqb, ltb, ℤ, pos, length, set, replicate}
use Rattle.std.proofs.Common.{sym, ap, subst, arith}
use Rattle.std.proofs.lemmas.List.{length-replicate, get_or-replicate}
use Rattle.std.specs.Float.Ieee.{div, of_int, of_bits, to_bits}
use Rattle.rules.specs.Below.{or_else, found, lowest, gather}
use Rattle.rules.specs.First.{given, first_match}
use Rattle.rules.specs.Points.{in_range}
use Rattle.rules.specs.Job.{written}
use Rattle.rules.specs.Stl.{most_facets, metres, bits_of, header, facet_bytes, facets_of, file_of, write_tests, write_facets}
use Rattle.rules.specs.Laws.First.{match_here}
use Rattle.rules.specs.Reading.Points.{InRange, range_reads}
use Rattle.trips.proofs.Writable.{wrote_whole}
use Rattle.trips.specs.Worked.{top, four, minus, empty_file}

-- ---- a call of these units and these lent bytes

-- refused: the lent bytes are as they were
abbrev pub Refuses : List ℤ → List ℕ → ℕ → ℕ → Type 0
Refuses units lent code place = write_facets units lent ≡ record { verdict = record { code = code; place = place }; left = lent }

abbrev pub Writes : List ℤ → List ℕ → List ℕ → Type 0
Writes units lent left = write_facets units lent ≡ record { verdict = record { code = 0; place = 0 }; left = left }

-- so many lent bytes, filled with 9s
abbrev room : ℕ → List ℕ
room n = replicate n 9

abbrev pub zeros : ℕ → List ℤ
zeros n = replicate n (pos 0)

-- ---- codes 1 to 3

pub refused_lists :
    -- 1: eight numbers, ten, and one
    Refuses (zeros 8) (room 134) 1 0
    × Refuses (zeros 10) (room 184) 1 0
    × Refuses (zeros 1) (room 134) 1 0
    -- 2: 1024 and -1024, each alone, the first of two, and the last number of a second facet
    × Refuses (set (zeros 9) 0 (pos 1024)) (room 134) 2 0
    × Refuses (set (zeros 9) 8 (minus 1024)) (room 134) 2 8
    × Refuses (set (set (zeros 9) 4 (pos 1024)) 7 (minus 1024)) (room 134) 2 4
    × Refuses (set (zeros 18) 17 (pos 32767)) (room 184) 2 17
    -- 3: one byte short of one facet, of none, and no room
    × Refuses (zeros 9) (room 133) 3 0
    × Refuses [] (room 83) 3 0
    × Refuses (zeros 9) [] 3 0
    -- of two that apply the first is given: 1 before 2, 1 before 3, 2 before 3
    × Refuses (set (zeros 8) 3 (pos 1024)) (room 134) 1 0
    × Refuses (zeros 8) [] 1 0
    × Refuses (set (zeros 9) 3 (minus 1024)) [] 2 3
unfolding or_else found lowest given first_match in_range facets_of write_tests write_facets
refused_lists = (refl, refl, refl, refl, refl, refl, refl, refl, refl, refl, refl, refl, refl)

-- ---- the whole file of one facet

abbrev pub one_facet : List ℤ
one_facet = pos 0 ∷ pos 1 ∷ minus 1 ∷ pos 16 ∷ minus 16 ∷ pos 1023 ∷ minus 1023 ∷ pos 8 ∷ pos 24 ∷ []

-- a zero normal; 0, 1/16 and -1/16; 1, -1 and 1023/16; -1023/16, 1/2 and 3/2; a zero u16
abbrev pub one_facet_file : List ℕ
one_facet_file =
    top ++ four 1 0 0 0 ++ replicate 12 0
    ++ four 0x00 0x00 0x00 0x00 ++ four 0x00 0x00 0x80 0x3d ++ four 0x00 0x00 0x80 0xbd
    ++ four 0x00 0x00 0x80 0x3f ++ four 0x00 0x00 0x80 0xbf ++ four 0x00 0xc0 0x7f 0x42
    ++ four 0x00 0xc0 0x7f 0xc2 ++ four 0x00 0x00 0x00 0x3f ++ four 0x00 0x00 0xc0 0x3f
    ++ 0 ∷ 0 ∷ []

pub one_facet_file_lem : file_of one_facet ≡ one_facet_file
unfolding gather metres bits_of header facet_bytes facets_of file_of div of_int of_bits to_bits
one_facet_file_lem = refl

pub written_lists :
    -- in just its room, and with two bytes behind it, which stay
    Writes one_facet (room 134) one_facet_file
    × Writes one_facet (room 136) (one_facet_file ++ 9 ∷ 9 ∷ [])
    -- no facet: 84 bytes
    × Writes [] (room 85) (top ++ four 0 0 0 0 ++ 9 ∷ [])
unfolding or_else found lowest given first_match in_range written facets_of write_tests write_facets
written_lists = (rw one_facet_file_lem, rw one_facet_file_lem, rw empty_file)

-- ---- the most facets

many_verdict : (units : List ℤ) (room : ℕ) → length units ≡ 9 * 4097 → first_match 1 (write_tests units room) ≡ record { code = 1; place = 0 }
unfolding write_tests facets_of given found
many_verdict units room e = match_here 1 _ _ 0 (ap (λ (n : ℕ). given (not (eqb (n % 9) 0) || ltb most_facets (n / 9))) e)

-- 4,097 facets are refused, whatever they are and whatever room there is
pub too_many : (units : List ℤ) (lent : List ℕ) → length units ≡ 9 * 4097
    → Refuses units lent 1 0
unfolding write_facets
too_many units lent e = rw (many_verdict units (length lent) e)

pub most_count : facets_of (zeros (9 * 4096)) ≡ 4096
unfolding facets_of
most_count = ap (λ (n : ℕ). n / 9) (length-replicate (9 * 4096) (pos 0))

zero_in_range : InRange (pos 0)
unfolding in_range
zero_in_range = (range_reads (pos 0)).0 refl

-- 4,096 facets are written, in 204,884 bytes
pub most_written : (lent : List ℕ) → 204884 ≤ length lent
    → Writes (zeros (9 * 4096)) lent (written (file_of (zeros (9 * 4096))) lent)
most_written lent roomy =
    let many = length-replicate (9 * 4096) (pos 0) in
    wrote_whole (zeros (9 * 4096)) lent (record {
      whole = ap (λ (n : ℕ). n % 9) many;
      few = omega (arith, most_count);
      on = λ k l. subst InRange (sym (get_or-replicate (9 * 4096) k (pos 0) (pos 0) (omega (arith, many)))) zero_in_range;
      roomy = omega (arith, most_count);
    })
