-- Versions that the demands shut out: by document 01's own job A, where the case of a refusal matters by removes on table D, and where the
-- order of triangles matters by A with points.
use Rattle.std.specs.Prelude.{◌≡◌, refl, ◌⊎◌, ◌≢◌, List, [], ◌∷◌, ℕ, ◌+◌, ◌<◌, length, get_or, set, take}
use Rattle.std.proofs.Common.{sym, ap, ◌∙◌, ⊎_elim, arith, not-suc-le-zero, lit<, lit≤}
use Rattle.rules.specs.Words.{word}
use Rattle.rules.specs.Cases.{triangles_on_skin}
use Rattle.rules.specs.Proposals.{inside_in, RefusedByCases, taken}
use Rattle.rules.specs.Job.{track, header_of, job_of, standing, final_of, skin_with, Lent, Result, run}
use Rattle.rules.proofs.Reading.Codes.{code_exactly}
use Rattle.rules.specs.Worked.{Worked, ran}
use Rattle.rules.specs.Worked.Document.{whole_a, document_jobs_lem}
use Rattle.rules.specs.Worked.Ours.{removes_d, answer_jobs_lem}
use Rattle.rules.specs.Worked.Pointed.{rising_p, outward_p, order_jobs_lem}
use Rattle.track.specs.Outcomes.{Outcome, result_of}
use Rattle.demands.specs.Demands.{proposal_at, Demands}
use Rattle.demands.specs.Kept.{say_all}

-- what a version gives and leaves for each job, either choice of order and whatever is lent
pub record Version : Type 0 where
  pub gives : List ℕ → Lent → Outcome
  pub leaves : List ℕ → Lent → Lent
  pub keeps : (job : List ℕ) (before : Lent) → Demands job before (gives job before) (leaves job before)

-- ---- two jobs with known results, their buffers one longer than needed and filled with 9s

first : Result → List Result → Result
first d [] = d
first d (r ∷ rs) = r

second : Result → List Result → Result
second d [] = d
second d (r ∷ []) = d
second d (r ∷ s ∷ rs) = s

-- that a run of it gives its result
abbrev Runs : Worked → Type 0
Runs w = run track w.bytes w.lent ≡ w.result

runs_a : Runs whole_a
unfolding ran first
runs_a = ap (first whole_a.result) document_jobs_lem

seven : (header_of whole_a.bytes).proposals ≡ 7
unfolding header_of word
seven = refl

-- removes on table D
runs_d : Runs removes_d
unfolding ran first
runs_d = ap (first removes_d.result) answer_jobs_lem

ten : (header_of removes_d.bytes).proposals ≡ 10
unfolding header_of word
ten = refl

-- before its second proposal no triangle of the row that its third names is on the skin
none_before : triangles_on_skin (job_of track removes_d.bytes).table (inside_in (standing (job_of track removes_d.bytes) 1)) (proposal_at (job_of track removes_d.bytes) 2).row ≡ 0
unfolding ran
none_before = refl

-- A with points, rising and outward
runs_rising : Runs rising_p
unfolding ran first
runs_rising = ap (first rising_p.result) order_jobs_lem

runs_outward : Runs outward_p
unfolding ran second
runs_outward = ap (second outward_p.result) order_jobs_lem

-- no bytes at all: code 1
empty_job : (before : Lent) → (run track [] before).code ≡ 1
empty_job before = ((code_exactly track [] before refl 0 0 (lit< tt)).1 (record { holds = (lit< tt, refl); none_before = λ j l. absurd (not-suc-le-zero l) })).0

module _ (v : Version) where
  is_run : (job : List ℕ) (before : Lent) → result_of (v.gives job before) (v.leaves job before) ≡ run track job before
  is_run job before = say_all job before (v.keeps job before)

  -- what the version gives of a job with a known result
  module _ (w : Worked) (runs : Runs w) where
    on : result_of (v.gives w.bytes w.lent) (v.leaves w.bytes w.lent) ≡ w.result
    on = is_run w.bytes w.lent ∙ runs

    code_on : (v.gives w.bytes w.lent).code ≡ w.result.code
    code_on = ap (λ (r : Result). r.code) on

    answer_on : (k : ℕ) → get_or (v.leaves w.bytes w.lent).answers k 0 ≡ get_or w.result.left.answers k 0
    answer_on k = ap (λ (r : Result). get_or r.left.answers k 0) on

  -- one that refuses every job: A is run
  pub not_all_refused : ((job : List ℕ) (before : Lent) → (v.gives job before).code ≢ 0) → ⊥
  not_all_refused never = never whole_a.bytes whole_a.lent (code_on whole_a runs_a)

  -- one that answers 5, 6 or 7 to every proposal: A's first is taken
  pub not_all_by_cases : ((job : List ℕ) (before : Lent) → (v.gives job before).code ≡ 0 → (k : ℕ) → k < (header_of job).proposals → RefusedByCases (get_or (v.leaves job before).answers k 0)) → ⊥
  not_all_by_cases refuses = omega (arith, answer_on whole_a runs_a 0, (refuses whole_a.bytes whole_a.lent (code_on whole_a runs_a) 0 (rw seven (lit< tt))).0)

  -- one giving the same output for all jobs: A is run, and no bytes at all are refused
  pub not_the_same : ((job other : List ℕ) (before : Lent) → v.gives job before ≡ v.gives other before) → ⊥
  not_the_same same =
      let empty = ap (λ (r : Result). r.code) (is_run [] whole_a.lent) ∙ empty_job whole_a.lent in
      let e = sym empty ∙ ap (λ (o : Outcome). o.code) (same [] whole_a.bytes whole_a.lent) ∙ code_on whole_a runs_a in
      omega (arith, e)

  -- one that touches nothing: A's final marks differ from what was lent
  pub not_untouched : ((job : List ℕ) (before : Lent) → v.leaves job before ≡ before) → ⊥
  not_untouched same =
      let e : ◌≡◌ {A = ℕ} 9 0 = ap (λ (l : Lent). get_or l.final_marks 0 0) (sym (same whole_a.bytes whole_a.lent)) ∙ ap (λ (r : Result). get_or r.left.final_marks 0 0) (on whole_a runs_a) in
      omega (arith, e)

  -- one that judges the first proposal and copies its answer onward: A's second gets 4
  pub not_copied : ((job : List ℕ) (before : Lent) → (v.gives job before).code ≡ 0 → (k : ℕ) → k < (header_of job).proposals
      → get_or (v.leaves job before).answers k 0 ≡ get_or (v.leaves job before).answers 0 0) → ⊥
  not_copied copies =
      let answer = answer_on whole_a runs_a in
      let e = sym (answer 1) ∙ copies whole_a.bytes whole_a.lent (code_on whole_a runs_a) 1 (rw seven (lit< tt)) ∙ answer 0 in
      omega (arith, e)

  -- one that invents its counts, for whatever job: both are fixed by what is left
  pub not_invented : (job : List ℕ) (before : Lent) → (v.gives job before).code ≡ 0
      → ((v.gives job before).taken ≢ taken (take (header_of job).proposals (v.leaves job before).answers))
      ⊎ ((v.gives job before).triangles ≢ length (skin_with (job_of track job) (final_of (job_of track job)))) → ⊥
  not_invented job before zero invents =
      let d = (v.keeps job before).two zero in
      ⊎_elim (λ ne. ne d.taken_counted) (λ ne. ne d.triangles_counted) invents

  -- ---- the case of a refusal

  -- one that gives one answer for all cases: D's first gets 5, and its third 6
  pub not_one_answer : (a : ℕ) → ((job : List ℕ) (before : Lent) → (v.gives job before).code ≡ 0 → (k : ℕ) → k < (header_of job).proposals
      → RefusedByCases (get_or (v.leaves job before).answers k 0) → get_or (v.leaves job before).answers k 0 ≡ a) → ⊥
  not_one_answer a one =
      let given : (k : ℕ) → k < 10 → RefusedByCases (get_or removes_d.result.left.answers k 0) → get_or removes_d.result.left.answers k 0 ≡ a =
      λ k l. rw (← answer_on removes_d runs_d k) (one removes_d.bytes removes_d.lent (code_on removes_d runs_d) k (rw ten l)) in
      let e = given 0 (lit< tt) (lit≤ tt, lit≤ tt) ∙ sym (given 2 (lit< tt) (lit≤ tt, lit≤ tt)) in
      omega (arith, e)

  -- one that gives the case of the marks before the last taken proposal: D's second is taken, its third gets 6, and f was 0 before the second
  pub not_the_case_before : ((job : List ℕ) (before : Lent) → (v.gives job before).code ≡ 0 → (k : ℕ) → k + 1 < (header_of job).proposals
      → get_or (v.leaves job before).answers k 0 ≡ 0 → RefusedByCases (get_or (v.leaves job before).answers (k + 1) 0)
      → get_or (v.leaves job before).answers (k + 1) 0 ≡ 5 + triangles_on_skin (job_of track job).table (inside_in (standing (job_of track job) k)) (proposal_at (job_of track job) (k + 1)).row) → ⊥
  not_the_case_before stale =
      let answer = answer_on removes_d runs_d in
      let e = sym (answer 2) ∙ stale removes_d.bytes removes_d.lent (code_on removes_d runs_d) 1 (rw ten (lit< tt)) (answer 1) (rw (answer 2) (lit≤ tt, lit≤ tt)) in
      omega (arith, e, none_before)

  -- ---- the order of the triangles

  -- one that does not hear which order is asked for, word 7's low byte being byte 28: of A with points the first triangle is 2 3 4, and
  -- outward 2 4 3
  pub not_deaf : ((job : List ℕ) (before : Lent) → v.leaves (set job 28 3) before ≡ v.leaves job before) → ⊥
  not_deaf same =
      let left : (w : Worked) → Runs w → get_or (v.leaves w.bytes w.lent).triangles 1 0 ≡ get_or w.result.left.triangles 1 0 =
      λ w runs. ap (λ (r : Result). get_or r.left.triangles 1 0) (on w runs) in
      let e = sym (left rising_p runs_rising) ∙ ap (λ (l : Lent). get_or l.triangles 1 0) (same outward_p.bytes outward_p.lent) ∙ left outward_p runs_outward in
      omega (arith, e)
