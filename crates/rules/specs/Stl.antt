-- Binary STL of grid units: the file, what the facet writer and the reader answer, and the file of a job's skin.
use Rattle.std.specs.Prelude.{ℕ, ◌+◌, ◌*◌, ◌/◌, ◌%◌, Bool, true, not, ◌&&◌, ◌||◌, cond, eqb, ltb, ℤ, pos, ◌-ℤ◌, length, get_or, replicate, Float}
use mathlib.Core.List.{List, [], ◌∷◌, ◌++◌, map, flatten}
use Rattle.std.proofs.Math.Option
use Rattle.std.proofs.Math.Option.{Option, some, none}
use Rattle.std.specs.Float.{binary32}
use Rattle.std.specs.Float.Ieee.{div, of_int, of_bits, to_bits}
use Rattle.rules.specs.Below.{found, lowest, any, all, gather, tabulate}
use Rattle.rules.specs.Words.{word, bytes_of}
use Rattle.rules.specs.First.{Test, given, Verdict, first_match}
use Rattle.rules.specs.Points.{Point, grid_most, in_range}
use Rattle.rules.specs.Job.{Form, header_of, has_points, Job, job_of, final_of, listed_with, Lent, written, Result, run}

-- ---- a number

-- units in metres, as an f32: divided by 16
unfoldable pub metres : ℤ → Float
metres u = div binary32 (of_int binary32 u) (of_bits binary32 0x4180_0000)

-- its bits, as they are written
unfoldable pub bits_of : ℤ → ℕ
bits_of u = to_bits binary32 (metres u)

-- ---- the file: a header, the number of facets, and fifty bytes for each facet

-- the ASCII text `track skin`, followed by zeros
abbrev pub title : List ℕ
title = 116 ∷ 114 ∷ 97 ∷ 99 ∷ 107 ∷ 32 ∷ 115 ∷ 107 ∷ 105 ∷ 110 ∷ []

unfoldable pub header : List ℕ
header = title ++ replicate 70 0

-- a zero normal, three corners of three numbers each, and a zero u16: nine units of a list, from a place on
unfoldable pub facet_bytes : List ℤ → ℕ → List ℕ
facet_bytes units from = replicate 12 0 ++ (gather 9 (λ k. bytes_of 4 (bits_of (get_or units (from + k) (pos 0)))) ++ replicate 2 0)

abbrev pub most_facets : ℕ
most_facets = 4096

abbrev pub file_length : ℕ → ℕ
file_length facets = 84 + 50 * facets

-- the file of a list of units, nine for each facet
unfoldable pub facets_of : List ℤ → ℕ
facets_of units = length units / 9

unfoldable pub file_of : List ℤ → List ℕ
file_of units = header ++ (bytes_of 4 (facets_of units) ++ gather (facets_of units) (λ f. facet_bytes units (9 * f)))

-- ---- the facet writer

unfoldable pub write_tests : List ℤ → ℕ → List Test
write_tests units room =
    -- 1: not whole facets, or too many
    (λ _. given (not (eqb (length units % 9) 0) || ltb most_facets (facets_of units)))
    -- 2: a number outside -1023 to 1023
    ∷ (λ _. lowest (length units) (λ k. not (in_range (get_or units k (pos 0)))))
    -- 3: short room
    ∷ (λ _. given (ltb room (file_length (facets_of units))))
    ∷ []

-- what a call answers, and the lent bytes as left
pub record Wrote : Type 0 where
  pub verdict : Verdict
  pub left : List ℕ

unfoldable pub write_facets : List ℤ → List ℕ → Wrote
write_facets units lent =
    let v = first_match 1 (write_tests units (length lent)) in
    record { verdict = v; left = cond (eqb v.code 0) (written (file_of units) lent) lent }

-- ---- the reader

-- the number of facets that the file tells
unfoldable pub count_in : List ℕ → ℕ
count_in bytes = word 4 bytes 80

-- under 84 bytes, a count over 4,096, or another length than the count asks for
unfoldable pub ill_sized : List ℕ → Bool
ill_sized bytes = ltb (length bytes) 84 || ltb most_facets (count_in bytes) || not (eqb (length bytes) (file_length (count_in bytes)))

unfoldable pub headed : List ℕ → Bool
headed bytes = all 80 (λ k. eqb (get_or bytes k 0) (get_or header k 0))

-- where facet f stands, and its number k
abbrev pub facet_at : ℕ → ℕ
facet_at f = 84 + 50 * f

abbrev pub number_at : ℕ → ℕ → ℕ
number_at f k = facet_at f + 12 + 4 * k

-- the bits of its normal and its u16 are zero
unfoldable pub blank : List ℕ → ℕ → Bool
blank bytes f = eqb (word 12 bytes (facet_at f)) 0 && eqb (word 2 bytes (facet_at f + 48)) 0

-- the grid's numbers, rising: number 0 is -1023, number 2046 is 1023
unfoldable pub grid_number : ℕ → ℤ
grid_number k = pos k -ℤ pos grid_most

-- these bits are written for number k of them
abbrev pub written_for : ℕ → ℕ → Bool
written_for bits k = eqb bits (bits_of (grid_number k))

-- they are written for none; the units that they are written for, or zero
unfoldable pub bits_off : ℕ → Bool
bits_off bits = not (any 2047 (written_for bits))

unfoldable pub units_of : ℕ → ℤ
units_of bits = grid_number (Option.get_or (lowest 2047 (written_for bits)) grid_most)

-- the bits of number k of facet f
unfoldable pub bits_at : List ℕ → ℕ → ℕ → ℕ
bits_at bytes f k = word 4 bytes (number_at f k)

-- facet f is at fault; the first that is; and its first number off the grid
unfoldable pub faulty : List ℕ → ℕ → Bool
faulty bytes f = not (blank bytes f) || any 9 (λ k. bits_off (bits_at bytes f k))

unfoldable pub first_fault : List ℕ → Option ℕ
first_fault bytes = lowest (count_in bytes) (faulty bytes)

unfoldable pub first_off : List ℕ → ℕ → ℕ
first_off bytes f = bits_at bytes f (Option.get_or (lowest 9 (λ k. bits_off (bits_at bytes f k))) 0)

-- f, if a bit of its normal or its u16 is not zero
unfoldable pub not_zero : List ℕ → Option ℕ → Option ℕ
not_zero bytes none = none
not_zero bytes (some f) = found (not (blank bytes f)) f

unfoldable pub read_tests : List ℕ → ℕ → List Test
read_tests bytes room =
    -- 1: length
    (λ _. given (ill_sized bytes))
    -- 2: header
    ∷ (λ _. given (not (headed bytes)))
    -- 3: room for under nine numbers a facet
    ∷ (λ _. given (ltb room (9 * count_in bytes)))
    -- 4: normal bits or u16 not zero; 5: a number off the grid. The first facet at fault decides.
    ∷ (λ _. not_zero bytes (first_fault bytes))
    ∷ (λ _. first_fault bytes)
    ∷ []

-- number i of the file, in units, and all of them
unfoldable pub unit_at : List ℕ → ℕ → ℤ
unit_at bytes i = units_of (bits_at bytes (i / 9) (i % 9))

unfoldable pub units_in : List ℕ → List ℤ
units_in bytes = tabulate (9 * count_in bytes) (unit_at bytes)

-- what a call answers: code and place, how many facets were read, the number off the grid and its bits; and the lent units as left
pub record Read : Type 0 where
  pub verdict : Verdict
  pub facets : ℕ
  pub off : Option (Float × ℕ)
  pub left : List ℤ

-- a number off the grid is handed back as it stood
unfoldable pub handed_back : List ℕ → Verdict → Option (Float × ℕ)
handed_back bytes v = cond (eqb v.code 5) (some (of_bits binary32 (first_off bytes v.place), first_off bytes v.place)) none

unfoldable pub read_file : List ℕ → List ℤ → Read
read_file bytes lent =
    let v = first_match 1 (read_tests bytes (length lent)) in
    cond (eqb v.code 0) (record { verdict = v; facets = count_in bytes; off = none; left = written (units_in bytes) lent })
    (record { verdict = v; facets = 0; off = handed_back bytes v; left = lent })

-- ---- the job's writer

-- the coordinates of the points of triangles' ids, corner by corner
unfoldable pub coordinates : Point → List ℤ
coordinates p = p.x ∷ p.y ∷ p.z ∷ []

unfoldable pub corners_of : (ℕ → Point) → List (List ℕ) → List ℤ
corners_of at triangles = flatten (map (λ v. coordinates (at v)) (flatten triangles))

-- the skin after the last proposal, outward
abbrev pub outward_skin : Job → List (List ℕ)
outward_skin job = listed_with true job (final_of job)

-- the file of a job's skin, where there are points
unfoldable pub skin_file : Job → List ℕ
skin_file job = elim job.points [ some at ↦ file_of (corners_of at (outward_skin job)) | none ↦ [] ]

unfoldable pub file_tests : Form → List ℕ → ℕ → ℕ → List Test
file_tests f bytes triangles room =
    -- 20: no points
    (λ _. given (not (has_points f (header_of bytes))))
    -- 21: short room
    ∷ (λ _. given (ltb room (file_length triangles)))
    ∷ []

-- what a call answers, with the job's four buffers as its run leaves them, and the lent bytes as left
pub record Exported : Type 0 where
  pub result : Result
  pub file : List ℕ

-- a run whose file is refused
unfoldable pub unwritten : Verdict → Lent → Result
unwritten v left = record { code = v.code; place = v.place; taken = 0; triangles = 0; left = left }

unfoldable pub exported : Form → List ℕ → Result → List ℕ → Exported
exported f bytes r file =
    let v = first_match 20 (file_tests f bytes r.triangles (length file)) in
    cond (eqb v.code 0) (record { result = r; file = written (skin_file (job_of f bytes)) file }) (record { result = unwritten v r.left; file = file })

unfoldable pub write_skin : Form → List ℕ → Lent → List ℕ → Exported
write_skin f bytes lent file =
    let r = run f bytes lent in
    cond (eqb r.code 0) (exported f bytes r file) (record { result = r; file = file })
