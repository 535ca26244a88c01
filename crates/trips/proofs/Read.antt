-- The reader, worked: each code with its place, first match decides, numbers off the grid as they are handed back, and files that are read.
use Rattle.std.specs.Prelude.{◌≡◌, refl, true, false, not, List, [], ◌∷◌, ◌++◌, ℕ, ◌+◌, ◌*◌, ◌≤◌, eqb, ltb, ℤ, pos, length, take, set, replicate, Float}
use Rattle.std.proofs.Common.{sym, ap, ◌∙◌, subst, le_refl, arith}
use Rattle.std.proofs.Math.Option.{some, none}
use Rattle.std.proofs.lemmas.List.{length-replicate}
use Rattle.std.specs.Float.{nan, inf, fin, binary32}
use Rattle.std.specs.Float.Ieee.{of_bits}
use Rattle.rules.specs.Below.{or_else, found, lowest, any, all, gather, tabulate}
use Rattle.rules.specs.Words.{word, words, bytes_of}
use Rattle.rules.specs.First.{given, Verdict, first_match}
use Rattle.rules.specs.Job.{written}
use Rattle.rules.specs.Stl.{most_facets, file_length, header, facets_of, file_of, Wrote, count_in, ill_sized, headed, blank, bits_at, faulty, first_fault, first_off, not_zero, read_tests, unit_at, units_in, handed_back, read_file, write_facets}
use Rattle.rules.specs.Laws.Truth.{or_first, or_second}
use Rattle.rules.specs.Laws.First.{match_here}
use Rattle.trips.proofs.Trips.{write_read}
use Rattle.trips.specs.Worked.{top, four, minus, minus_zero_off, quiet_nan_off, signalling_nan_off, infinity_off, minus_infinity_off, half_unit_off, past_most_off, denormal_off, zero_read, one_read, minus_one_read, most_read}
use Rattle.trips.proofs.Written.{zeros, one_facet, one_facet_file, one_facet_file_lem, written_lists, most_count, most_written}

-- ---- a call of these bytes and these lent units

-- refused: the lent units are as they were
abbrev pub Refuses : List ℕ → List ℤ → ℕ → ℕ → Type 0
Refuses bytes lent code place = read_file bytes lent ≡ record { verdict = record { code = code; place = place }; facets = 0; off = none; left = lent }

-- 5 at a facet: its number off the grid is handed back, with its bits
abbrev pub HandsBack : List ℕ → List ℤ → ℕ → Float → ℕ → Type 0
HandsBack bytes lent place number bits =
    read_file bytes lent ≡ record { verdict = record { code = 5; place = place }; facets = 0; off = some (number, bits); left = lent }

-- so many facets are read
abbrev pub Reads : List ℕ → List ℤ → ℕ → List ℤ → Type 0
Reads bytes lent facets left = read_file bytes lent ≡ record { verdict = record { code = 0; place = 0 }; facets = facets; off = none; left = left }

-- its code and place
unfoldable judged : List ℕ → List ℤ → Verdict
unfolding or_else found lowest any all word given first_match header count_in ill_sized headed blank bits_at faulty first_fault not_zero read_tests
judged bytes lent = first_match 1 (read_tests bytes (length lent))

four_at : (bytes : List ℕ) (lent : List ℤ) (f : ℕ) → judged bytes lent ≡ record { code = 4; place = f } → Refuses bytes lent 4 f
unfolding judged read_file handed_back
four_at bytes lent f e = rw e

five_at : (bytes : List ℕ) (lent : List ℤ) (f : ℕ) (number : Float) (bits : ℕ) → judged bytes lent ≡ record { code = 5; place = f }
    → first_off bytes f ≡ bits → of_bits binary32 bits ≡ number → HandsBack bytes lent f number bits
unfolding judged read_file handed_back
five_at bytes lent f number bits e b n = rw (e, b, n)

-- ---- files

-- room for so many numbers, filled with 9s
abbrev room : ℕ → List ℤ
room n = replicate n (pos 9)

abbrev one : List ℕ → List ℕ
one facet = top ++ four 1 0 0 0 ++ facet

abbrev two : List ℕ → List ℕ → List ℕ
two first second = top ++ four 2 0 0 0 ++ first ++ second

-- a facet of these twelve words, the normal's three and nine numbers, and this u16
abbrev facet : List ℕ → ℕ → List ℕ
facet twelve n = words twelve ++ bytes_of 2 n

abbrev noughts : List ℕ
noughts = replicate 12 0

-- all zero; with these bits in word i of its normal; as its number k; as its u16
abbrev plain : List ℕ
plain = facet noughts 0

abbrev normal : ℕ → ℕ → List ℕ
normal i bits = facet (set noughts i bits) 0

abbrev number : ℕ → ℕ → List ℕ
number k bits = normal (3 + k) bits

abbrev tagged : ℕ → List ℕ
tagged n = facet noughts n

-- ---- codes 1 to 3

pub refused_files :
    -- 1: no bytes, 83 of them, a facet one byte short and one long, one told and none there, and the greatest count
    Refuses [] (room 9) 1 0
    × Refuses (take 83 (top ++ four 0 0 0 0)) (room 9) 1 0
    × Refuses (take 133 (one plain)) (room 9) 1 0
    × Refuses (one plain ++ 0 ∷ []) (room 9) 1 0
    × Refuses (one []) (room 9) 1 0
    × Refuses (top ++ four 255 255 255 255) (room 9) 1 0
    -- 2: the first byte, byte 9, and byte 79, which is to be zero
    × Refuses (set (one plain) 0 84) (room 9) 2 0
    × Refuses (set (one plain) 9 109) (room 9) 2 0
    × Refuses (set (one plain) 79 1) (room 9) 2 0
    -- 3: room for eight numbers, and for seventeen where there are two facets
    × Refuses (one plain) (room 8) 3 0
    × Refuses (two plain plain) (room 17) 3 0
    -- of two that apply the first is given: 1 before 2, 2 before 3, 3 before 4 and 5
    × Refuses (take 133 (set (one plain) 9 109)) (room 9) 1 0
    × Refuses (set (one plain) 9 109) (room 8) 2 0
    × Refuses (one (normal 0 1)) (room 8) 3 0
    × Refuses (one (number 0 0x8000_0000)) (room 8) 3 0
unfolding judged read_file handed_back
refused_files = (refl, refl, refl, refl, refl, refl, refl, refl, refl, refl, refl, refl, refl, refl, refl)

over_most : (bytes : List ℕ) → count_in bytes ≡ 4097 → ill_sized bytes ≡ true
unfolding ill_sized
over_most bytes e =
    or_first (not (eqb (length bytes) (file_length (count_in bytes)))) (or_second (ltb (length bytes) 84) (ap (ltb most_facets) e))

over_verdict : (bytes : List ℕ) (room : ℕ) → count_in bytes ≡ 4097 → first_match 1 (read_tests bytes room) ≡ record { code = 1; place = 0 }
unfolding given found read_tests
over_verdict bytes room e = match_here 1 _ _ 0 (ap given (over_most bytes e))

-- a count of 4,097 is refused, whatever follows it and whatever room there is
pub too_many : (facets : List ℕ) (lent : List ℤ) → Refuses (top ++ four 1 16 0 0 ++ facets) lent 1 0
unfolding word count_in read_file handed_back
too_many facets lent = rw (over_verdict (top ++ four 1 16 0 0 ++ facets) (length lent) refl)

-- ---- 4: a normal or a u16 that is not zero

pub not_zero_files :
    -- the lowest bit of a normal, a negative zero in one, and the u16, low byte and high
    Refuses (one (normal 0 1)) (room 9) 4 0
    × Refuses (one (normal 2 0x8000_0000)) (room 9) 4 0
    × Refuses (one (tagged 1)) (room 9) 4 0
    × Refuses (one (tagged 0x8000)) (room 9) 4 0
    -- the second facet
    × Refuses (two plain (normal 1 1)) (room 18) 4 1
    × Refuses (two plain (tagged 1)) (room 18) 4 1
unfolding judged
not_zero_files = (
  four_at _ _ _ refl,
  four_at _ _ _ refl,
  four_at _ _ _ refl,
  four_at _ _ _ refl,
  four_at _ _ _ (simp zero_read.0),
  four_at _ _ _ (simp zero_read.0),
)

-- ---- 5: a number off the grid

pub off_files :
    -- negative zero, two NaNs, the infinities
    HandsBack (one (number 0 0x8000_0000)) (room 9) 0 (fin true 0 (pos 0)) 0x8000_0000
    × HandsBack (one (number 1 0x7fc0_0000)) (room 9) 0 nan 0x7fc0_0000
    × HandsBack (one (number 2 0x7f80_0001)) (room 9) 0 nan 0x7f80_0001
    × HandsBack (one (number 3 0x7f80_0000)) (room 9) 0 (inf false) 0x7f80_0000
    × HandsBack (one (number 4 0xff80_0000)) (room 9) 0 (inf true) 0xff80_0000
    -- half a unit, which is 1/32, 1024 units, which are 64, and a denormal, the least there is
    × HandsBack (one (number 5 0x3d00_0000)) (room 9) 0 (fin false 1 (minus 5)) 0x3d00_0000
    × HandsBack (one (number 6 0x4280_0000)) (room 9) 0 (fin false 1 (pos 6)) 0x4280_0000
    × HandsBack (one (number 8 0x0000_0001)) (room 9) 0 (fin false 1 (minus 149)) 0x0000_0001
unfolding judged first_off of_bits
off_files = (
  five_at _ _ _ _ _ (simp minus_zero_off) (simp minus_zero_off) refl,
  five_at _ _ _ _ _ (simp (zero_read.0, quiet_nan_off)) (simp (zero_read.0, quiet_nan_off)) refl,
  five_at _ _ _ _ _ (simp (zero_read.0, signalling_nan_off)) (simp (zero_read.0, signalling_nan_off)) refl,
  five_at _ _ _ _ _ (simp (zero_read.0, infinity_off)) (simp (zero_read.0, infinity_off)) refl,
  five_at _ _ _ _ _ (simp (zero_read.0, minus_infinity_off)) (simp (zero_read.0, minus_infinity_off)) refl,
  five_at _ _ _ _ _ (simp (zero_read.0, half_unit_off)) (simp (zero_read.0, half_unit_off)) refl,
  five_at _ _ _ _ _ (simp (zero_read.0, past_most_off)) (simp (zero_read.0, past_most_off)) refl,
  five_at _ _ _ _ _ (simp (zero_read.0, denormal_off)) (simp (zero_read.0, denormal_off)) refl,
)

-- ---- which facet decides, and which number is handed back

pub first_faults :
    -- of two numbers the first
    HandsBack (one (facet (set (set noughts 5 0x7fc0_0000) 9 0x8000_0000) 0)) (room 9) 0 nan 0x7fc0_0000
    -- the second facet
    × HandsBack (two plain (number 7 0x7fc0_0000)) (room 18) 1 nan 0x7fc0_0000
    -- of two facets the first, 5 before 4, and 4 before 5
    × HandsBack (two (number 8 0x8000_0000) (normal 0 1)) (room 18) 0 (fin true 0 (pos 0)) 0x8000_0000
    × Refuses (two (tagged 1) (number 0 0x8000_0000)) (room 18) 4 0
    -- in one facet 4 before 5
    × Refuses (two plain (facet (set (set noughts 2 1) 3 0x8000_0000) 0)) (room 18) 4 1
    × Refuses (two plain (facet (set noughts 3 0x8000_0000) 1)) (room 18) 4 1
unfolding judged first_off of_bits
first_faults = (
  five_at _ _ _ _ _ (simp (zero_read.0, quiet_nan_off)) (simp (zero_read.0, quiet_nan_off)) refl,
  five_at _ _ _ _ _ (simp (zero_read.0, quiet_nan_off)) (simp (zero_read.0, quiet_nan_off)) refl,
  five_at _ _ _ _ _ (simp (zero_read.0, minus_zero_off)) (simp (zero_read.0, minus_zero_off)) refl,
  four_at _ _ _ refl,
  four_at _ _ _ (simp zero_read.0),
  four_at _ _ _ (simp zero_read.0),
)

-- ---- files that are read

pub read_files :
    -- 84 bytes, in no room and in some
    Reads (top ++ four 0 0 0 0) [] 0 []
    × Reads (top ++ four 0 0 0 0) (room 2) 0 (room 2)
    -- just the room, and a number behind it, which stays
    × Reads (one plain) (room 9) 1 (replicate 9 (pos 0))
    × Reads (one (number 8 0x427f_c000)) (room 10) 1 (replicate 8 (pos 0) ++ pos 1023 ∷ pos 9 ∷ [])
    -- two facets
    × Reads (two (number 0 0x3d80_0000) (number 1 0xbd80_0000)) (room 18) 2 (set (set (replicate 18 (pos 0)) 0 (pos 1)) 10 (minus 1))
unfolding judged read_file gather tabulate unit_at units_in written
read_files = (
  refl,
  refl,
  simp (zero_read.0, zero_read.1),
  simp (zero_read.0, zero_read.1, most_read.0, most_read.1),
  simp (zero_read.0, zero_read.1, one_read.0, one_read.1, minus_one_read.0, minus_one_read.1),
)

-- the file of one facet, with two numbers behind, which stay
pub one_facet_read : Reads one_facet_file (room 11) 1 (one_facet ++ pos 9 ∷ pos 9 ∷ [])
unfolding facets_of written
one_facet_read =
    ap (λ (bytes : List ℕ). read_file bytes (room 11)) (sym one_facet_file_lem)
    ∙ write_read one_facet _ (ap (λ (w : Wrote). w.verdict.code) written_lists.0) (room 11) (omega arith)

-- n facets, once they are written
back : (units : List ℤ) (n : ℕ) → facets_of units ≡ n → (bytes : List ℕ) → (write_facets units bytes).verdict.code ≡ 0
    → (lent : List ℤ) → length units ≤ length lent → Reads (file_of units) lent n (written units lent)
back units n e bytes zero_code lent roomy = write_read units bytes zero_code lent roomy ∙ rw e

-- 4,096 facets
pub most_read_back : (lent : List ℤ) → 36864 ≤ length lent → Reads (file_of (zeros (9 * 4096))) lent 4096 (written (zeros (9 * 4096)) lent)
most_read_back lent roomy =
    let large = subst (λ (n : ℕ). 204884 ≤ n) (sym (length-replicate {A = ℕ} 204884 0)) (le_refl 204884) in
    back (zeros (9 * 4096)) 4096 most_count (replicate 204884 0) (ap (λ (w : Wrote). w.verdict.code) (most_written (replicate 204884 0) large)) lent
    (subst (λ (n : ℕ). n ≤ length lent) (sym (length-replicate (9 * 4096) (pos 0))) roomy)
