-- Demand 3 for accepted jobs: those that `rules`' run gives code 0, whatever is lent.
use Rattle.std.specs.Prelude.{◌≡◌, true, List, ℕ, ◌+◌, ◌^◌, ◌≤◌, ◌<◌, length, take}
use Rattle.std.proofs.Common.{◌∙◌, zero-lt-suc, arith}
use Rattle.rules.specs.First.{first_match}
use Rattle.rules.specs.Proposals.{Proposal, inside_in}
use Rattle.rules.specs.Job.{Form, header_of, whole_length, Job, job_of, answers_of, standing, final_of, clean_with, Lent, table_tests, mark_tests, section_tests, accepted, run}
use Rattle.rules.specs.Made.{with_proposals, remade_job, remade}
use Rattle.rules.specs.Laws.Lists.{Among}
use Rattle.rules.specs.Laws.First.{match_parts, match_both}
use Rattle.rules.specs.Laws.Proposals.{answers_length, taken_few}
use Rattle.rules.specs.Laws.Job.{job_corners, job_rows}
use Rattle.rules.proofs.Laws.Job.{job_answers}
use Rattle.rules.specs.Laws.Made.{remade_header}
use Rattle.rules.proofs.Laws.Made.{remade_laid, remade_job_lem}
use Rattle.rules.specs.Reading.Closed.{Closed}
use Rattle.rules.specs.Reading.Skin.{inside_reads}
use Rattle.rules.proofs.Reading.Ring.{clean_plain}
use Rattle.rules.specs.Reading.Codes.{RoomShort, sections_passed, points_passed, accepted_marks, accepted_clean}
use Rattle.rules.proofs.Reading.Codes.{marks_fit, run_as, accepted_closed, accepted_outer, accepted_length}
use Rattle.manifold.specs.Steps.{Marks, undoing, undoing_length, taken_known, alike_kept}
use Rattle.manifold.specs.Jobs.{EveryStep, CasesDecide, Backwards, limits, laid}
use Rattle.manifold.proofs.Steps.{five_cases, every_step, backwards, all_steps}

module _ (f : Form) (bytes : List ℕ) (lent : Lent) (corners : f.corners ≡ 4) (ran : (run f bytes lent).code ≡ 0) where
  abbrev job : Job
  job = job_of f bytes

  four : job.table.corners ≡ 4
  four = job_corners f bytes ∙ corners

  closed : Closed job.table job.ids
  closed = accepted_closed f bytes lent ran

  start : Marks job.table job.marks
  start = record { one_each = accepted_length f bytes lent ran; binary = accepted_marks f bytes lent ran }

  clean_start : clean_with job job.marks ≡ true
  clean_start = accepted_clean f bytes lent ran

  pub job_every_step : EveryStep (job_of f bytes)
  job_every_step k = every_step job.table four closed job.marks start clean_start job.proposals k

  pub job_five_cases : CasesDecide (job_of f bytes)
  job_five_cases k p off =
      let (m, e) = all_steps job.table four closed job.marks start clean_start (take k job.proposals) in
      five_cases job.table four closed (standing job k) m e p off

  pub job_backwards : Backwards (job_of f bytes)
  job_backwards = backwards job.table four closed job.marks start clean_start job.proposals

  -- ---- the same as jobs, with whatever buffers that are long enough

  module _ (mode_small : f.mode + 3 < 256 ^ 4) (small : whole_length f (header_of bytes) < 256 ^ 4) where
    -- The same rows with the final marks, and the taken ones backwards, are run too.
    module _ (buffers : Lent) (room : RoomShort f (with_proposals (header_of bytes) (length (undoing (answers_of job) job.proposals))) buffers → ⊥) where
      back : List Proposal
      back = undoing (answers_of job) job.proposals

      final : Marks job.table (final_of job) × (clean_with job (final_of job) ≡ true)
      final = all_steps job.table four closed job.marks start clean_start job.proposals

      each : length (final_of job) ≡ (header_of bytes).rows
      each = final.0.one_each ∙ job_rows f bytes

      few : length back ≤ (header_of bytes).proposals
      unfolding back
      few =
          omega (arith, undoing_length (answers_of job) job.proposals (answers_length job.table job.marks job.proposals), taken_few (answers_of job), job_answers f bytes)

      fit : (p : Proposal) → Among p back → (p.row < 256 ^ 4) × (p.kind < 256 ^ 4)
      unfolding back
      fit p m =
          let (row, kind) = taken_known job.table (final_of job) back job_backwards.0 p m in
          (omega (arith, row, job_rows f bytes, (limits f bytes lent corners ran mode_small small).0.1.1), omega (arith, kind))

      sections : (first_match 5 (section_tests (remade_job (final_of job) back job))).code ≡ 0
      unfolding table_tests mark_tests
      sections =
          let t = job.table in
          let passed = (match_parts 5 (zero-lt-suc 4) (table_tests t job.ids) _ (sections_passed f bytes lent ran)).0 in
          let marks =
          marks_fit t job.ids four (final_of job) closed final.0.binary (alike_kept t job.marks job.proposals (accepted_outer f bytes lent ran))
          ((clean_plain t four (inside_in (final_of job)) (inside_reads (final_of job)) job.ids closed.paired).0 final.1)
          in
          match_both 5 (zero-lt-suc 4) (table_tests t job.ids) _ passed
          (match_both 10 (zero-lt-suc 9) (mark_tests t job.ids (final_of job)) _ marks (points_passed f bytes lent ran))

      pub undone_run : run f (remade f (final_of job) (undoing (answers_of job) job.proposals) bytes) buffers
          ≡ accepted (remade_job (final_of job) (undoing (answers_of job) job.proposals) job) buffers
      unfolding back
      undone_run =
          run_as f (remade f (final_of job) back bytes) buffers (with_proposals (header_of bytes) (length back)) (remade_job (final_of job) back job)
          (remade_header f bytes (limits f bytes lent corners ran mode_small small) (laid f bytes lent corners ran mode_small small) mode_small small (final_of job) each back few)
          (remade_job_lem f bytes (limits f bytes lent corners ran mode_small small) (laid f bytes lent corners ran mode_small small) mode_small small (final_of job) each back few fit)
          (remade_laid f bytes (limits f bytes lent corners ran mode_small small) (laid f bytes lent corners ran mode_small small) mode_small small (final_of job) each back few) room sections
