-- Jobs with points: both orders of the list, codes 13 to 15, first match decides among 12 to 15, and the values of word 7.
use Rattle.std.specs.Prelude.{ℕ, ◌+◌, ◌-◌, ◌*◌, ◌/◌, ◌≡◌, refl, List, [], ◌∷◌, ◌++◌, map, length, take}
use Rattle.rules.specs.Words.{word, words, bytes_of}
use Rattle.rules.specs.Job.{Lent, Result, track, header_of, has_points, point_bytes}
use Rattle.rules.specs.Made.{header_bytes, proposal_bytes, cut_to, remade}
use Rattle.rules.specs.Worked.{job, lend, done, refusal, Worked, ran, known, keeps, row, three, add, remove, table_a, table_b, marked}
use Rattle.rules.specs.Worked.Document.{grown_work_a, sky_work_a}

-- ---- a job with points

-- a coordinate below zero
abbrev minus : ℕ → ℕ
minus n = 65536 - n

abbrev shorts : List ℕ → List ℕ
shorts [] = []
shorts (n ∷ ns) = bytes_of 2 n ++ shorts ns

abbrev origin : List ℕ
origin = three 0 0 0

-- word 7 where there are points: the skin is to be listed outward, or rising
abbrev outward : ℕ
outward = 1

abbrev rising : ℕ
rising = 3

-- word 7, the rows' ids, the marks, each proposal's row and kind, and the coordinates of V points
abbrev pointed : ℕ → List ℕ → List ℕ → List ℕ → List ℕ → List ℕ
pointed mode rows marks proposals points =
    let n = length rows / 4 in
    let p = length proposals / 2 in
    let v = length points / 3 in
    words (v ∷ n ∷ p ∷ 32 ∷ (32 + 16 * n) ∷ (32 + 17 * n) ∷ (32 + 17 * n + 8 * p + 6 * v) ∷ mode ∷ [])
    ++ words rows ++ marks ++ words proposals ++ shorts points

abbrev accepts : ℕ → List ℕ → List ℕ → List ℕ → List ℕ → Result → Worked
accepts mode rows marks proposals points result = record {
  bytes = pointed mode rows marks proposals points;
  lent = lend (length points / 3) (length rows / 4) (length proposals / 2);
  result = result;
}

abbrev refuses : ℕ → List ℕ → List ℕ → List ℕ → ℕ → ℕ → Worked
refuses mode rows marks points code place = record {
  bytes = pointed mode rows marks [] points;
  lent = lend (length points / 3) (length rows / 4) 0;
  result = refusal (length points / 3) (length rows / 4) 0 code place;
}

-- ---- points for tables A and B

-- a tetrahedron about the middle, so far from it in each coordinate
abbrev about : ℕ → List ℕ
about d = origin ++ three d d d ++ three d (minus d) (minus d) ++ three (minus d) d (minus d) ++ three (minus d) (minus d) d

-- its mirror image
abbrev mirrored : ℕ → List ℕ
mirrored d = origin ++ three d d d ++ three d (minus d) (minus d) ++ three (minus d) (minus d) d ++ three (minus d) d (minus d)

-- beside the middle: id 0's point, which is the origin, is not within
abbrev beside : List ℕ
beside = origin ++ three 48 48 48 ++ three 48 16 16 ++ three 16 48 16 ++ three 16 16 48

-- on the middle: the points of the outer row 0 1 2 3 lie in a plane
abbrev on_middle : List ℕ
on_middle = origin ++ three 16 0 0 ++ three 0 16 0 ++ three (minus 16) (minus 16) 0 ++ three 0 0 16

-- 3, 4, 5 and 6 about the edge 1 2
abbrev points_b : List ℕ → List ℕ → List ℕ
points_b five six = origin ++ three 0 0 (minus 16) ++ three 0 0 16 ++ three 16 0 0 ++ three 0 16 0 ++ five ++ six

abbrev around_b : List ℕ
around_b = points_b (three (minus 16) 0 0) (three 0 (minus 16) 0)

-- ---- the two orders

abbrev proposals_p : List ℕ
proposals_p = add 4 ++ remove 4 ++ add 4

abbrev grown : List ℕ → Result
grown skin = done 3 4 (0 ∷ 0 ∷ 0 ∷ []) (marked 5 (4 ∷ [])) skin grown_work_a

-- A with the sky inside
abbrev sky_a : List ℕ
sky_a = marked 5 (0 ∷ 1 ∷ 2 ∷ 3 ∷ [])

abbrev rising_a : List ℕ
rising_a = three 2 3 4 ++ three 1 3 4 ++ three 1 2 4 ++ three 1 2 3

abbrev outward_a : List ℕ
outward_a = three 2 4 3 ++ three 1 3 4 ++ three 1 4 2 ++ three 1 2 3

abbrev pub rising_p : Worked
rising_p = accepts rising table_a (marked 5 []) proposals_p (about 16) (grown rising_a)

abbrev pub outward_p : Worked
outward_p = accepts outward table_a (marked 5 []) proposals_p (about 16) (grown outward_a)

abbrev pub order_jobs : List Worked
order_jobs =
    -- A, rising and outward
    rising_p
    ∷ outward_p
    -- without points the ids rise
    ∷ record { bytes = job 5 table_a (marked 5 []) proposals_p; lent = lend 5 5 3; result = grown rising_a }
    -- of an outer row no volume is asked for
    ∷ accepts outward table_a (marked 5 []) proposals_p on_middle (grown (three 2 3 4 ++ three 1 4 3 ++ three 1 2 4 ++ three 1 3 2))
    -- the greatest product that there is, on either side
    ∷ accepts outward table_a (marked 5 []) proposals_p (about 1023) (grown outward_a)
    ∷ accepts outward table_a (marked 5 []) proposals_p (mirrored 1023) (grown (three 2 3 4 ++ three 1 4 3 ++ three 1 2 4 ++ three 1 3 2))
    -- the sky inside: the row that is outside lies in front, and where the origin lies does not matter
    ∷ accepts rising table_a sky_a [] beside (done 0 4 [] sky_a (three 1 2 3 ++ three 1 2 4 ++ three 1 3 4 ++ three 2 3 4) sky_work_a)
    ∷ accepts outward table_a sky_a [] beside (done 0 4 [] sky_a (three 1 3 2 ++ three 1 2 4 ++ three 1 4 3 ++ three 2 3 4) sky_work_a)
    -- B whole: its eight sides
    ∷ accepts outward table_b (marked 12 (8 ∷ 9 ∷ 10 ∷ 11 ∷ [])) [] around_b
    (done 0 8 [] (marked 12 (8 ∷ 9 ∷ 10 ∷ 11 ∷ []))
    (three 2 3 4 ++ three 1 4 3 ++ three 2 6 3 ++ three 1 3 6 ++ three 2 4 5 ++ three 1 5 4 ++ three 2 5 6
    ++ three 1 6 5)
    (row 8 4 2 1 ++ row 9 5 3 0 ++ row 10 6 3 0 ++ row 11 7 1 2 ++ row 8 0 6 5 ++ row 9 1 7 4 ++ row 10 2 7 4
    ++ row 11 3 5 6 ++ row 4 0 10 9 ++ row 5 1 11 8 ++ row 6 2 11 8 ++ row 7 3 9 10 ++ 0 ∷ 4 ∷ 4 ∷ 2 ∷ 2 ∷ 2 ∷ 2 ∷ 8 ∷ 8 ∷ 8 ∷ 6 ∷ 6 ∷ 6 ∷ 6 ∷ []))
    ∷ []

pub order_jobs_lem : map ran order_jobs ≡ map known order_jobs
unfolding ran
order_jobs_lem = refl

-- ---- codes 13 to 15, whatever order is asked for

abbrev lend_a : Lent
lend_a = lend 5 5 0

abbrev pub point_jobs : List Worked
point_jobs =
    -- 13: a coordinate past either end of its range, the least there is, the point of an unused id, and that of id 0
    refuses outward table_a (marked 5 []) (origin ++ three 1 1 1 ++ three 1 (minus 1) (minus 1) ++ three 5 1024 5 ++ three 2 2 1024) 13 3
    ∷ refuses rising table_a (marked 5 []) (origin ++ three 1 1 1 ++ three 1 (minus 1) (minus 1024) ++ three 5 5 5 ++ three 2 2 1) 13 2
    ∷ refuses outward table_a (marked 5 []) (about 16 ++ three 32768 0 0) 13 5
    ∷ refuses outward table_a (marked 5 []) (three 0 0 1 ++ take 12 (about 16)) 13 0
    -- 14: four points in a plane
    ∷ refuses outward table_a (marked 5 []) (origin ++ three 1 1 4 ++ three 9 1 4 ++ three 1 9 4 ++ three 7 8 4) 14 4
    -- 15: row 11 is turned over, so that it lies on the same side as 9 and as 10
    ∷ refuses outward table_b (marked 12 []) (points_b (three (minus 5) (minus 15) 0) (three (minus 15) (minus 5) 0)) 15 9
    -- 6 beside 4, so that rows 8 and 9 lie on the same side of 1 2 3
    ∷ refuses rising table_b (marked 12 []) (points_b (three (minus 16) 0 0) (three 8 8 0)) 15 8
    -- of two that apply the first is given: 12 before 13, 13 before 14, 14 before 15
    ∷ refuses outward table_b (marked 12 (8 ∷ 11 ∷ [])) (points_b (three (minus 16) 0 2000) (three 0 (minus 16) 0)) 12 1
    ∷ refuses outward table_a (marked 5 []) (origin ++ three 1 1 4 ++ three 9 1 4 ++ three 1 2000 4 ++ three 7 8 4) 13 3
    ∷ refuses outward table_b (marked 12 []) (points_b (three 4 4 0) (three 8 8 0)) 14 11
    -- 3: word 7 is not 0, 1 or 3, or the length is not that of the points
    ∷ keeps (pointed 2 table_a (marked 5 []) [] (about 16)) lend_a 3
    ∷ keeps (pointed 4 table_a (marked 5 []) [] (about 16)) lend_a 3
    ∷ keeps (pointed 0 table_a (marked 5 []) [] (about 16)) lend_a 3
    ∷ keeps (take 146 (pointed outward table_a (marked 5 []) [] (about 16))) lend_a 3
    ∷ keeps (pointed outward table_a (marked 5 []) [] (about 16) ++ 0 ∷ []) lend_a 3
    ∷ keeps (take 146 (pointed rising table_a (marked 5 []) [] (about 16))) lend_a 3
    ∷ keeps (pointed rising table_a (marked 5 []) [] (about 16) ++ 0 ∷ []) lend_a 3
    ∷ []

pub point_jobs_lem : map ran point_jobs ≡ map known point_jobs
unfolding ran
point_jobs_lem = refl

-- ---- files made over keep their points, and the order that they ask for

abbrev job_p : ℕ → List ℕ
job_p mode = pointed mode table_a (marked 5 []) proposals_p (about 16)

pub points_made_over : (cut_to track 1 (job_p outward) ≡ pointed outward table_a (marked 5 []) (add 4) (about 16))
    × (remade track (marked 5 (4 ∷ [])) (record { row = 4; kind = 2 } ∷ []) (job_p rising) ≡ pointed rising table_a (marked 5 (4 ∷ [])) (remove 4) (about 16))
unfolding header_of has_points point_bytes word cut_to remade header_bytes proposal_bytes
points_made_over = (refl, refl)
