-- Document 01's jobs, with their whole results.
use Rattle.std.specs.Prelude.{ℕ, ◌≡◌, refl, List, [], ◌∷◌, ◌++◌, map, take, set, replicate}
use Rattle.rules.specs.Job.{Result}
use Rattle.rules.specs.Worked.{header, job, lend, done, Worked, ran, known, accepts, refuses, keeps, row, three, add, remove, proposal, table_a, table_b, marked}

abbrev pub proposals_a : List ℕ
proposals_a = add 4 ++ add 4 ++ add 0 ++ remove 4 ++ proposal 4 3 ++ add 5 ++ add 4

abbrev pub neighbours_a : List ℕ
neighbours_a = row 4 3 2 1 ++ row 4 3 2 0 ++ row 4 3 1 0 ++ row 4 2 1 0 ++ row 3 2 1 0

-- A's work area, by how many inside rows hold each id
abbrev pub work_a : List ℕ → List ℕ
work_a inside = neighbours_a ++ inside ++ 4 ∷ 4 ∷ 4 ∷ 4 ∷ 4 ∷ []

-- where no row is inside, and where row 4 alone is
abbrev pub bare_work_a : List ℕ
bare_work_a = work_a (replicate 5 0)

abbrev pub grown_work_a : List ℕ
grown_work_a = work_a (0 ∷ 1 ∷ 1 ∷ 1 ∷ 1 ∷ [])

-- where the four outer rows are inside, and where all rows are
abbrev pub sky_work_a : List ℕ
sky_work_a = work_a (4 ∷ 3 ∷ 3 ∷ 3 ∷ 3 ∷ [])

abbrev pub full_work_a : List ℕ
full_work_a = work_a (replicate 5 4)

abbrev pub skin_a : List ℕ
skin_a = three 2 3 4 ++ three 1 3 4 ++ three 1 2 4 ++ three 1 2 3

abbrev pub result_a : Result
result_a =
    done 3 4
    (0 ∷ 4 ∷ 3 ∷ 0 ∷ 2 ∷ 1 ∷ 0 ∷ [])
    (marked 5 (4 ∷ []))
    skin_a
    grown_work_a

abbrev pub whole_a : Worked
whole_a = accepts 5 table_a (marked 5 []) proposals_a result_a

abbrev pub document_jobs : List Worked
document_jobs =
    -- (a) A whole
    whole_a
    -- (b) B's answers, as document 02 (i) has them
    ∷ accepts 7 table_b (marked 12 []) (add 8 ++ add 11 ++ add 10 ++ add 11 ++ add 9 ++ remove 8 ++ remove 11)
    (done 5 8
    (0 ∷ 5 ∷ 0 ∷ 0 ∷ 0 ∷ 0 ∷ 7 ∷ [])
    (marked 12 (9 ∷ 10 ∷ 11 ∷ []))
    (three 2 3 6 ++ three 1 3 6 ++ three 1 2 3 ++ three 2 4 5 ++ three 1 4 5 ++ three 1 2 4 ++ three 2 5 6
    ++ three 1 5 6)
    (row 8 4 2 1 ++ row 9 5 3 0 ++ row 10 6 3 0 ++ row 11 7 1 2 ++ row 8 0 6 5 ++ row 9 1 7 4 ++ row 10 2 7 4
    ++ row 11 3 5 6 ++ row 4 0 10 9 ++ row 5 1 11 8 ++ row 6 2 11 8 ++ row 7 3 9 10 ++ 0 ∷ 3 ∷ 3 ∷ 1 ∷ 1 ∷ 2 ∷ 2 ∷ 8 ∷ 8 ∷ 8 ∷ 6 ∷ 6 ∷ 6 ∷ 6 ∷ []))
    -- (c) B with marks on 8 and 11
    ∷ refuses 7 table_b (marked 12 (8 ∷ 11 ∷ [])) [] 12 1
    -- (d) A with mark 2 on row 3
    ∷ refuses 5 table_a (set (marked 5 []) 3 2) proposals_a 10 3
    -- (e) A with a mark on row 0, as document 02 (ii) has it
    ∷ refuses 5 table_a (marked 5 (0 ∷ [])) proposals_a 11 1
    -- (f) A with P 0
    ∷ accepts 5 table_a (marked 5 []) [] (done 0 0 [] (marked 5 []) [] bare_work_a)
    -- (g) A with its last row made 1 2 3 3
    ∷ refuses 5 (take 16 table_a ++ row 1 2 3 3) (marked 5 []) proposals_a 5 4
    -- (h) A with its last row a copy of row 3
    ∷ refuses 5 (take 16 table_a ++ row 0 2 3 4) (marked 5 []) proposals_a 6 4
    -- (i) two copies of A's table sharing only vertices 0 and 1
    ∷ refuses 8
    (row 0 1 2 3 ++ row 0 1 2 4 ++ row 0 1 3 4 ++ row 0 1 5 6 ++ row 0 1 5 7 ++ row 0 1 6 7 ++ row 0 2 3 4
    ++ row 0 5 6 7 ++ row 1 2 3 4 ++ row 1 5 6 7)
    (marked 10 []) [] 8 0
    -- (j) sharing only 0
    ∷ refuses 9
    (row 0 1 2 3 ++ row 0 1 2 4 ++ row 0 1 3 4 ++ row 0 2 3 4 ++ row 0 5 6 7 ++ row 0 5 6 8 ++ row 0 5 7 8
    ++ row 0 6 7 8 ++ row 1 2 3 4 ++ row 5 6 7 8)
    (marked 10 []) [] 9 0
    ∷ []

pub document_jobs_lem : map ran document_jobs ≡ map known document_jobs
unfolding ran
document_jobs_lem = refl

-- ---- those that document 01 has run and compared

abbrev pub job_a : List ℕ
job_a = job 5 table_a (marked 5 []) proposals_a

abbrev pub compared_jobs : List Worked
compared_jobs =
    -- N 4 and N 2,049
    keeps (header 5 4 0) (lend 5 5 7) 2
    ∷ keeps (header 5 2049 0) (lend 5 5 7) 2
    -- 31 bytes
    ∷ keeps (take 31 job_a) (lend 5 5 7) 1
    -- A cut by a byte
    ∷ keeps (take 172 job_a) (lend 5 5 7) 3
    -- V 6 in A still runs; no row holds id 5
    ∷ accepts 6 table_a (marked 5 []) proposals_a
    (done 3 4 (0 ∷ 4 ∷ 3 ∷ 0 ∷ 2 ∷ 1 ∷ 0 ∷ []) (marked 5 (4 ∷ [])) skin_a (neighbours_a ++ 0 ∷ 1 ∷ 1 ∷ 1 ∷ 1 ∷ 0 ∷ 4 ∷ 4 ∷ 4 ∷ 4 ∷ 4 ∷ 0 ∷ []))
    -- work one word short
    ∷ keeps job_a (record { answers = replicate 7 9; final_marks = replicate 5 9; triangles = replicate 30 9; work = replicate 29 9 }) 4
    ∷ []

pub compared_jobs_lem : map ran compared_jobs ≡ map known compared_jobs
unfolding ran
compared_jobs_lem = refl
