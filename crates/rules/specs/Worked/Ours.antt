-- Further jobs: what document 01's own leave open of the meaning, and each line of each of its tables.
use Rattle.std.specs.Prelude.{ℕ, ◌+◌, ◌*◌, ◌≡◌, refl, List, [], ◌∷◌, ◌++◌, map, take, drop, replicate}
use Rattle.rules.specs.Job.{Lent, track, header_of, has_points, point_bytes}
use Rattle.rules.specs.Made.{header_bytes, proposal_bytes, cut_to, remade}
use Rattle.rules.specs.Words.{word, words}
use Rattle.rules.specs.Worked.{job, lend, done, Worked, ran, known, accepts, refuses, keeps, row, three, add, remove, proposal, table_a, table_b, table_c, table_d, marked}
use Rattle.rules.specs.Worked.Document.{neighbours_a, sky_work_a, full_work_a, job_a}

-- ---- jobs that catch a wrong meaning which passes all of document 01's own

abbrev pub harder_jobs : List Worked
harder_jobs =
    -- the f = 1 case refuses, the f = 3 case passes, and outer rows count on a remove
    accepts 8 table_c (marked 15 []) (add 10 ++ add 7 ++ add 13 ++ add 8 ++ add 9 ++ remove 8 ++ remove 10)
    (done 5 8
    (0 ∷ 0 ∷ 0 ∷ 0 ∷ 6 ∷ 0 ∷ 7 ∷ [])
    (marked 15 (7 ∷ 10 ∷ 13 ∷ []))
    (three 1 5 7 ++ three 1 2 7 ++ three 1 2 5 ++ three 2 3 7 ++ three 2 3 5 ++ three 4 5 7 ++ three 3 4 7
    ++ three 3 4 5)
    (row 6 3 2 1 ++ row 7 4 2 0 ++ row 8 5 1 0 ++ row 12 0 5 4 ++ row 13 1 5 3 ++ row 14 2 4 3 ++ row 9 0 8 7
    ++ row 10 1 8 6 ++ row 11 2 7 6 ++ row 12 6 11 10 ++ row 13 7 11 9 ++ row 14 8 10 9 ++ row 3 9 14 13
    ++ row 4 10 14 12 ++ row 5 11 13 12 ++ 0 ∷ 1 ∷ 2 ∷ 2 ∷ 1 ∷ 3 ∷ 0 ∷ 3 ∷ 6 ∷ 6 ∷ 6 ∷ 6 ∷ 6 ∷ 10 ∷ 10 ∷ 10 ∷ []))
    -- two separate rings about vertex 6, though each end lies on two far edges
    ∷ refuses 8 table_c (marked 15 (6 ∷ 14 ∷ [])) [] 12 6
    -- one closed trail passes all six far edges of vertex 2, and end 7 twice
    ∷ refuses 8 table_c (marked 15 (6 ∷ 7 ∷ 9 ∷ 11 ∷ [])) [] 12 2
    -- a triangle in one row only
    ∷ refuses 6 (take 16 table_a ++ row 1 2 3 5) (marked 5 []) [] 7 1
    ∷ []

pub harder_jobs_lem : map ran harder_jobs ≡ map known harder_jobs
unfolding ran
harder_jobs_lem = refl

-- ---- each answer, for add and for remove: 0 at each f, 5, 6 and 7, and 1 to 4

abbrev pub neighbours_d : List ℕ
neighbours_d =
    row 4 3 2 1 ++ row 5 3 2 0 ++ row 6 3 1 0 ++ row 7 2 1 0 ++ row 8 6 5 0 ++ row 9 6 4 1 ++ row 10 5 4 2 ++ row 11 9 8 3 ++ row 12 9 7 4
    ++ row 13 8 7 5 ++ row 14 12 11 6 ++ row 15 12 10 7 ++ row 16 11 10 8 ++ row 16 15 14 9 ++ row 16 15 13 10 ++ row 16 14 13 11
    ++ row 15 14 13 12

-- D's work area, by how many inside rows hold each id
abbrev pub work_d : List ℕ → List ℕ
work_d inside = neighbours_d ++ inside ++ 4 ∷ 6 ∷ 8 ∷ 10 ∷ 12 ∷ 10 ∷ 8 ∷ 6 ∷ 4 ∷ []

-- from all finite rows, at f = 0 0 1 4 1 1 2 2 2 3; the add is the fourth
abbrev pub removes_d : Worked
removes_d =
    accepts 9 table_d (marked 17 (4 ∷ 5 ∷ 6 ∷ 7 ∷ 8 ∷ 9 ∷ 10 ∷ 11 ∷ 12 ∷ 13 ∷ 14 ∷ 15 ∷ 16 ∷ [])) (remove 9 ++ remove 16 ++ remove 15 ++ add 16 ++ remove 7 ++ remove 9 ++ remove 8 ++ remove 4 ++ remove 6
    ++ remove 5)
    (done 7 6
    (5 ∷ 0 ∷ 6 ∷ 0 ∷ 0 ∷ 0 ∷ 0 ∷ 0 ∷ 7 ∷ 0 ∷ [])
    (marked 17 (6 ∷ 10 ∷ 11 ∷ 12 ∷ 13 ∷ 14 ∷ 15 ∷ 16 ∷ []))
    (three 1 4 5 ++ three 1 3 5 ++ three 1 3 4 ++ three 3 4 6 ++ three 3 5 6 ++ three 4 5 6)
    (work_d (0 ∷ 1 ∷ 0 ∷ 4 ∷ 6 ∷ 6 ∷ 5 ∷ 6 ∷ 4 ∷ [])))

-- from empty marks, at f = 0 0 4 0 1 1 1 2 2 2 3; the remove is the third
abbrev pub adds_d : Worked
adds_d =
    accepts 9 table_d (marked 17 []) (add 9 ++ add 14 ++ remove 9 ++ add 16 ++ add 12 ++ add 11 ++ add 14 ++ add 15 ++ add 13 ++ add 10 ++ add 14)
    (done 8 6
    (0 ∷ 5 ∷ 0 ∷ 0 ∷ 0 ∷ 0 ∷ 6 ∷ 0 ∷ 0 ∷ 7 ∷ 0 ∷ [])
    (marked 17 (11 ∷ 12 ∷ 13 ∷ 14 ∷ 15 ∷ 16 ∷ []))
    (three 3 4 7 ++ three 3 4 6 ++ three 3 5 7 ++ three 3 5 6 ++ three 4 5 6 ++ three 4 5 7)
    (work_d (0 ∷ 0 ∷ 0 ∷ 2 ∷ 4 ∷ 4 ∷ 5 ∷ 5 ∷ 4 ∷ [])))

abbrev pub answer_jobs : List Worked
answer_jobs =
    removes_d
    ∷ adds_d
    -- answers 1 to 4: of two that apply the first is given
    ∷ accepts 9 table_d (marked 17 []) (add 17 ++ remove 17 ++ proposal 17 3 ++ proposal 16 0 ++ proposal 16 3 ++ proposal 0 3 ++ add 0 ++ remove 0
    ++ remove 16 ++ add 16 ++ add 16)
    (done 1 4
    (1 ∷ 1 ∷ 1 ∷ 2 ∷ 2 ∷ 2 ∷ 3 ∷ 3 ∷ 4 ∷ 0 ∷ 4 ∷ [])
    (marked 17 (16 ∷ []))
    (three 6 7 8 ++ three 5 7 8 ++ three 5 6 8 ++ three 5 6 7)
    (work_d (0 ∷ 0 ∷ 0 ∷ 0 ∷ 0 ∷ 1 ∷ 1 ∷ 1 ∷ 1 ∷ [])))
    ∷ []

pub answer_jobs_lem : map ran answer_jobs ≡ map known answer_jobs
unfolding ran
answer_jobs_lem = refl

-- ---- the sky inside, as document 02 (ii) has it

-- the outer rows of A and of D, and the triangles of A under them
abbrev pub sky : List ℕ
sky = 0 ∷ 1 ∷ 2 ∷ 3 ∷ []

abbrev pub under_sky : List ℕ
under_sky = three 1 2 3 ++ three 1 2 4 ++ three 1 3 4 ++ three 2 3 4

-- grown inward, at f = 0 1 1 1 2 2 2 3 3, then a remove at f = 1: rows of the sky hold the vertex opposite, but they are inside
abbrev pub inward_d : Worked
inward_d =
    accepts 9 table_d (marked 17 sky) (add 9 ++ add 7 ++ add 9 ++ add 6 ++ add 5 ++ add 6 ++ add 8 ++ add 4 ++ add 8 ++ remove 8 ++ add 17
    ++ proposal 16 3 ++ remove 0 ++ add 7)
    (done 7 6
    (5 ∷ 0 ∷ 0 ∷ 6 ∷ 0 ∷ 0 ∷ 7 ∷ 0 ∷ 0 ∷ 0 ∷ 1 ∷ 2 ∷ 3 ∷ 4 ∷ [])
    (marked 17 (4 ∷ 5 ∷ 6 ∷ 7 ∷ 9 ∷ sky))
    (three 2 3 5 ++ three 3 4 5 ++ three 3 4 6 ++ three 2 3 6 ++ three 4 5 6 ++ three 2 5 6)
    (work_d (4 ∷ 6 ∷ 7 ∷ 6 ∷ 7 ∷ 4 ∷ 2 ∷ 0 ∷ 0 ∷ [])))

abbrev pub sky_jobs : List Worked
sky_jobs =
    -- A with rows 0 to 3 marked: four triangles, and after an add of row 4 none
    accepts 5 table_a (marked 5 sky) [] (done 0 4 [] (marked 5 sky) under_sky sky_work_a)
    ∷ accepts 5 table_a (marked 5 sky) (add 4) (done 1 0 (0 ∷ []) (marked 5 (4 ∷ sky)) [] full_work_a)
    -- A with all rows marked: no triangle, and a remove of row 4 is taken
    ∷ accepts 5 table_a (marked 5 (4 ∷ sky)) [] (done 0 0 [] (marked 5 (4 ∷ sky)) [] full_work_a)
    ∷ accepts 5 table_a (marked 5 (4 ∷ sky)) (remove 4) (done 1 4 (0 ∷ []) (marked 5 sky) under_sky sky_work_a)
    ∷ inward_d
    -- A with rows 0 and 1 marked, and with all but row 0: the lowest that is unlike row 0
    ∷ refuses 5 table_a (marked 5 (0 ∷ 1 ∷ [])) [] 11 2
    ∷ refuses 5 table_a (marked 5 (1 ∷ 2 ∷ 3 ∷ 4 ∷ [])) [] 11 1
    -- all outer rows alike, but the skin not clean: B with every mark of (c) turned
    ∷ refuses 7 table_b (marked 12 (0 ∷ 1 ∷ 2 ∷ 3 ∷ 4 ∷ 5 ∷ 6 ∷ 7 ∷ 9 ∷ 10 ∷ [])) [] 12 1
    -- A with each id one higher: no row holds id 0, so none is outer, and any marks are alike
    ∷ accepts 6 (row 1 2 3 4 ++ row 1 2 3 5 ++ row 1 2 4 5 ++ row 1 3 4 5 ++ row 2 3 4 5) (marked 5 (0 ∷ [])) []
    (done 0 4 [] (marked 5 (0 ∷ [])) (three 2 3 4 ++ three 1 3 4 ++ three 1 2 4 ++ three 1 2 3) (neighbours_a ++ 0 ∷ 1 ∷ 1 ∷ 1 ∷ 1 ∷ 0 ∷ 0 ∷ 4 ∷ 4 ∷ 4 ∷ 4 ∷ 4 ∷ []))
    ∷ []

pub sky_jobs_lem : map ran sky_jobs ≡ map known sky_jobs
unfolding ran
sky_jobs_lem = refl

-- ---- each line of the table of codes

-- A's bytes with word i of the header changed
abbrev pub header_changed : ℕ → ℕ → List ℕ
header_changed i n = take (4 * i) job_a ++ words (n ∷ []) ++ drop (4 * i + 4) job_a

-- buffers of these lengths
abbrev pub rooms : ℕ → ℕ → ℕ → ℕ → Lent
rooms a m t w = record { answers = replicate a 9; final_marks = replicate m 9; triangles = replicate t 9; work = replicate w 9 }

abbrev pub early_jobs : List Worked
early_jobs =
    -- 1: no bytes at all
    keeps [] (lend 5 5 7) 1
    -- 2: V, N and P below and above their limits
    ∷ keeps (header_changed 0 4) (lend 5 5 7) 2
    ∷ keeps (header_changed 0 1025) (lend 5 5 7) 2
    ∷ keeps (header_changed 1 4) (lend 5 5 7) 2
    ∷ keeps (header_changed 1 2049) (lend 5 5 7) 2
    ∷ keeps (header_changed 2 1025) (lend 5 5 7) 2
    -- 3: words 3 to 7 one off, and a byte too many
    ∷ keeps (header_changed 3 31) (lend 5 5 7) 3
    ∷ keeps (header_changed 4 111) (lend 5 5 7) 3
    ∷ keeps (header_changed 5 118) (lend 5 5 7) 3
    ∷ keeps (header_changed 6 172) (lend 5 5 7) 3
    ∷ keeps (header_changed 7 1) (lend 5 5 7) 3
    ∷ keeps (job_a ++ 0 ∷ []) (lend 5 5 7) 3
    -- 4: each of the rooms one short
    ∷ keeps job_a (rooms 6 5 30 30) 4
    ∷ keeps job_a (rooms 7 4 30 30) 4
    ∷ keeps job_a (rooms 7 5 29 30) 4
    ∷ keeps job_a (rooms 7 5 30 29) 4
    -- of two that apply the first is given
    ∷ keeps (take 31 (header_changed 0 4)) (lend 5 5 7) 1
    ∷ keeps (header_changed 0 4 ++ 0 ∷ []) (lend 5 5 7) 2
    ∷ keeps (header_changed 7 1) (rooms 7 5 30 29) 3
    ∷ []

pub early_jobs_lem : map ran early_jobs ≡ map known early_jobs
unfolding ran
early_jobs_lem = refl

abbrev pub late_jobs : List Worked
late_jobs =
    -- 5: an id not below V; the first of two such rows
    refuses 5 (take 16 table_a ++ row 1 2 3 5) (marked 5 []) [] 5 4
    ∷ refuses 5 (row 0 1 2 3 ++ row 0 1 2 4 ++ row 1 0 3 4 ++ row 0 2 3 4 ++ row 1 2 4 3) (marked 5 []) [] 5 2
    -- 6: a row lower than the one before it
    ∷ refuses 5 (row 0 1 2 3 ++ row 0 1 3 4 ++ row 0 1 2 4 ++ row 0 2 3 4 ++ row 1 2 3 4) (marked 5 []) [] 6 2
    -- 7: triangle 1 2 3 in three rows
    ∷ refuses 6 (table_a ++ row 1 2 3 5) (marked 6 []) [] 7 0
    -- 8: two copies of A's table sharing only edge 3 4
    ∷ refuses 8
    (row 0 1 2 3 ++ row 0 1 2 4 ++ row 0 1 3 4 ++ row 0 2 3 4 ++ row 1 2 3 4 ++ row 3 4 5 6 ++ row 3 4 5 7 ++ row 3 4 6 7 ++ row 3 5 6 7
    ++ row 4 5 6 7)
    (marked 10 []) [] 8 2
    -- 9: two copies sharing only vertex 4
    ∷ refuses 9
    (row 0 1 2 3 ++ row 0 1 2 4 ++ row 0 1 3 4 ++ row 0 2 3 4 ++ row 1 2 3 4 ++ row 4 5 6 7 ++ row 4 5 6 8 ++ row 4 5 7 8 ++ row 4 6 7 8
    ++ row 5 6 7 8)
    (marked 10 []) [] 9 1
    -- 10: the first of two such marks
    ∷ refuses 5 table_a (0 ∷ 2 ∷ 0 ∷ 0 ∷ 255 ∷ []) [] 10 1
    -- 11: the first of two outer rows that are unlike row 0
    ∷ refuses 5 table_a (marked 5 (3 ∷ 1 ∷ 4 ∷ [])) [] 11 1
    -- 12: rows that touch along edge 2 7 alone
    ∷ refuses 8 table_c (marked 15 (7 ∷ 11 ∷ [])) [] 12 2
    -- of two that apply the first is given
    ∷ refuses 5 (row 0 1 2 3 ++ row 0 1 2 4 ++ row 0 1 2 4 ++ row 0 2 3 4 ++ row 1 2 4 3) (marked 5 []) [] 5 4
    ∷ refuses 6 (take 16 table_a ++ row 0 2 3 4) (marked 5 []) [] 6 4
    ∷ refuses 6 (take 16 table_a ++ row 1 2 3 5) (2 ∷ 0 ∷ 0 ∷ 0 ∷ 0 ∷ []) [] 7 1
    ∷ refuses 5 table_a (1 ∷ 2 ∷ 0 ∷ 0 ∷ 0 ∷ []) [] 10 1
    ∷ refuses 8 table_c (marked 15 (0 ∷ 6 ∷ 14 ∷ [])) [] 11 1
    ∷ []

pub late_jobs_lem : map ran late_jobs ≡ map known late_jobs
unfolding ran
late_jobs_lem = refl

-- ---- files made over: A cut to its first three proposals, and A backwards

pub made_over : (cut_to track 3 job_a ≡ job 5 table_a (marked 5 []) (add 4 ++ add 4 ++ add 0))
    × (remade track (marked 5 (4 ∷ [])) (record { row = 4; kind = 2 } ∷ record { row = 4; kind = 1 } ∷ record { row = 4; kind = 2 } ∷ []) job_a
    ≡ job 5 table_a (marked 5 (4 ∷ [])) (remove 4 ++ add 4 ++ remove 4))
unfolding header_of has_points point_bytes word cut_to remade header_bytes proposal_bytes
made_over = (refl, refl)
