-- The job's writer, worked: job A with points in both orders, its whole file byte for byte, an empty skin, and the refusals.
use Rattle.std.specs.Prelude.{◌≡◌, refl, List, [], ◌∷◌, ◌++◌, ℕ, ◌+◌, length, take, drop, set, replicate}
use Rattle.std.specs.Float.Ieee.{div, of_int, of_bits, to_bits}
use Rattle.rules.specs.Words.{words}
use Rattle.rules.specs.Job.{track, Lent, Result}
use Rattle.rules.specs.Stl.{metres, bits_of, header, facet_bytes, facets_of, file_of, coordinates, corners_of, skin_file, file_tests, unwritten, Exported, exported, write_skin}
use Rattle.rules.specs.Worked.{job, lend, done, refusal, ran, three, table_a, marked, add, remove}
use Rattle.rules.specs.Worked.Document.{job_a, proposals_a, bare_work_a, grown_work_a, sky_work_a, full_work_a, result_a}
use Rattle.rules.specs.Worked.Ours.{sky, under_sky}
use Rattle.trips.specs.Worked.{top, four}

-- ---- a call of a job, its four lent buffers and the lent bytes of the file

-- what comes back, and the lent bytes as left
abbrev pub Leaves : List ℕ → Lent → List ℕ → Result → List ℕ → Type 0
Leaves bytes lent file result left = write_skin track bytes lent file ≡ record { result = result; file = left }

-- refused: the lent bytes are as they were
abbrev pub Keeps : List ℕ → Lent → List ℕ → Result → Type 0
Keeps bytes lent file result = Leaves bytes lent file result file

-- all that computes it
unfoldable called : List ℕ → Lent → List ℕ → Exported
unfolding ran metres bits_of header facet_bytes facets_of file_of coordinates corners_of skin_file file_tests unwritten exported write_skin div of_int of_bits to_bits
called bytes lent file = write_skin track bytes lent file

-- the file is refused: place and counts 0, and the four buffers as the run leaves them
abbrev unfiled : ℕ → Result → Result
unfiled code result = record { code = code; place = 0; taken = 0; triangles = 0; left = result.left }

-- so many lent bytes, filled with 9s
abbrev room : ℕ → List ℕ
room n = replicate n 9

-- ---- job A with points

-- a tetrahedron about the middle, 16 units from it in each coordinate: id 0 at the origin, then 1 to 4
abbrev points : List ℕ
points =
    replicate 6 0
    ++ 16 ∷ 0 ∷ 16 ∷ 0 ∷ 16 ∷ 0
    ∷ 16 ∷ 0 ∷ 240 ∷ 255 ∷ 240 ∷ 255
    ∷ 240 ∷ 255 ∷ 16 ∷ 0 ∷ 240 ∷ 255
    ∷ 240 ∷ 255 ∷ 240 ∷ 255 ∷ 16 ∷ 0 ∷ []

-- a job file with these points behind it, and its length and word 7 made to fit; A with 1 and 3 are the stored jobs `outward` and `points`
abbrev pointed : ℕ → List ℕ → List ℕ
pointed mode bytes = take 24 bytes ++ words ((length bytes + 30) ∷ mode ∷ []) ++ drop 32 bytes ++ points

-- A with these marks and no proposal
abbrev idle : List ℕ → List ℕ
idle marks = job 5 table_a marks []

-- A's run but for the list, which is outward
abbrev pub outward_a : Result
outward_a =
    done 3 4
    (0 ∷ 4 ∷ 3 ∷ 0 ∷ 2 ∷ 1 ∷ 0 ∷ [])
    (marked 5 (4 ∷ []))
    (three 2 4 3 ++ three 1 3 4 ++ three 1 4 2 ++ three 1 2 3)
    grown_work_a

-- ---- its file

-- 16 units, and -16: 1 and -1
abbrev up : List ℕ
up = four 0x00 0x00 0x80 0x3f

abbrev down : List ℕ
down = four 0x00 0x00 0x80 0xbf

abbrev corner1 : List ℕ
corner1 = up ++ up ++ up

abbrev corner2 : List ℕ
corner2 = up ++ down ++ down

abbrev corner3 : List ℕ
corner3 = down ++ up ++ down

abbrev corner4 : List ℕ
corner4 = down ++ down ++ up

abbrev facet : List ℕ → List ℕ → List ℕ → List ℕ
facet a b c = replicate 12 0 ++ a ++ b ++ c ++ 0 ∷ 0 ∷ []

-- triangles 2 4 3, 1 3 4, 1 4 2 and 1 2 3: 284 bytes
abbrev pub file_a : List ℕ
file_a =
    top ++ four 4 0 0 0
    ++ facet corner2 corner4 corner3
    ++ facet corner1 corner3 corner4
    ++ facet corner1 corner4 corner2
    ++ facet corner1 corner2 corner3

-- with the sky inside, 1 3 2, 1 2 4, 1 4 3 and 2 3 4
abbrev pub sky_file : List ℕ
sky_file =
    top ++ four 4 0 0 0
    ++ facet corner1 corner3 corner2
    ++ facet corner1 corner2 corner4
    ++ facet corner1 corner4 corner3
    ++ facet corner2 corner3 corner4

pub skin_files :
    -- in just its room, and with two bytes behind it, which stay
    Leaves (pointed 1 job_a) (lend 5 5 7) (room 284) outward_a file_a
    × Leaves (pointed 1 job_a) (lend 5 5 7) (room 286) outward_a (file_a ++ 9 ∷ 9 ∷ [])
    -- word 7 asks for rising ids: the list of triangles has them, the file is the same
    × Leaves (pointed 3 job_a) (lend 5 5 7) (room 284) result_a file_a
    -- the sky inside: the same triangles from the other side
    × Leaves (pointed 3 (idle (marked 5 sky))) (lend 5 5 0) (room 284) (done 0 4 [] (marked 5 sky) under_sky sky_work_a) sky_file
unfolding called
skin_files = (refl, refl, refl, refl)

-- ---- an empty skin: 84 bytes

abbrev pub empty_file : List ℕ
empty_file = top ++ four 0 0 0 0

-- a run of A with these marks and no proposal, and what it leaves in work
abbrev bare : List ℕ → List ℕ → Result
bare marks work = done 0 0 [] marks [] work

pub empty_skins :
    -- no row inside; every row; row 4 added and removed
    Leaves (pointed 1 (idle (marked 5 []))) (lend 5 5 0) (room 85) (bare (marked 5 []) bare_work_a) (empty_file ++ 9 ∷ [])
    × Leaves (pointed 1 (idle (marked 5 (4 ∷ sky)))) (lend 5 5 0) (room 84) (bare (marked 5 (4 ∷ sky)) full_work_a) empty_file
    × Leaves (pointed 3 (job 5 table_a (marked 5 []) (add 4 ++ remove 4))) (lend 5 5 2) (room 84) (done 2 0 (0 ∷ 0 ∷ []) (marked 5 []) [] bare_work_a) empty_file
unfolding called
empty_skins = (refl, refl, refl)

-- ---- refusals

-- A with mark 2 on row 3, as document 01 has it
abbrev bad_mark : List ℕ
bad_mark = job 5 table_a (set (marked 5 []) 3 2) proposals_a

pub refused_skins :
    -- 20: no points, in room enough and in none, so 20 before 21
    Keeps job_a (lend 5 5 7) (room 284) (unfiled 20 result_a)
    × Keeps job_a (lend 5 5 7) [] (unfiled 20 result_a)
    -- 21: one byte short, in either order, and one short of an empty skin
    × Keeps (pointed 1 job_a) (lend 5 5 7) (room 283) (unfiled 21 outward_a)
    × Keeps (pointed 3 job_a) (lend 5 5 7) (room 283) (unfiled 21 result_a)
    × Keeps (pointed 1 (idle (marked 5 []))) (lend 5 5 0) (room 83) (unfiled 21 (bare (marked 5 []) bare_work_a))
    -- the job's own code and place: mark 2 on row 3, also where 20 or 21 would apply
    × Keeps (pointed 1 bad_mark) (lend 5 5 7) (room 284) (refusal 5 5 7 10 3)
    × Keeps bad_mark (lend 5 5 7) (room 284) (refusal 5 5 7 10 3)
    × Keeps (pointed 1 bad_mark) (lend 5 5 7) [] (refusal 5 5 7 10 3)
    -- the point of id 0 not zero, and word 7 a 2
    × Keeps (set (pointed 1 job_a) 173 1) (lend 5 5 7) (room 284) (refusal 5 5 7 13 0)
    × Keeps (pointed 2 job_a) (lend 5 5 7) (room 284) (refusal 5 5 7 3 0)
unfolding called
refused_skins = (refl, refl, refl, refl, refl, refl, refl, refl, refl, refl)
