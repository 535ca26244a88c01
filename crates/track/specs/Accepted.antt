-- What an accepted run leaves.
use Rattle.std.specs.Prelude.{◌≡◌, ℕ, length}
use Rattle.std.proofs.Common.{sym, ◌∙◌}
use Rattle.std.proofs.Math.Path.{ap}
use mathlib.Core.List.{List, flatten}
use Rattle.rules.specs.Proposals.{taken}
use Rattle.rules.specs.Job.{track, Job, job_of, answers_of, final_of, listed_of, work_with, Lent, written, Result, accepted, run}
use Rattle.rules.specs.Reading.Closed.{Closed}
use Rattle.rules.specs.Reading.Codes.{run_accepted, run_code}
use Rattle.rules.proofs.Reading.Codes.{accepted_closed}
use Rattle.track.specs.Outcomes.{Outcome, result_of}

module _ (bytes : List ℕ) (before : Lent) {o : Outcome} {after : Lent} (ran : result_of o after ≡ run track bytes before) (zero_code : o.code ≡ 0) where
  abbrev job : Job
  job = job_of track bytes

  pub job_accepted : (run track bytes before).code ≡ 0
  job_accepted = ap (λ (r : Result). r.code) (sym ran) ∙ zero_code

  pub job_closed : Closed job.table job.ids
  job_closed = accepted_closed track bytes before job_accepted

  is : result_of o after ≡ accepted job before
  is = ran ∙ run_accepted track bytes before (sym (run_code track bytes before) ∙ job_accepted)

  pub answers_are : after.answers ≡ written (answers_of job) before.answers
  unfolding accepted
  answers_are = ap (λ (r : Result). r.left.answers) is

  pub marks_are : after.final_marks ≡ written (final_of job) before.final_marks
  unfolding accepted
  marks_are = ap (λ (r : Result). r.left.final_marks) is

  pub triangles_are : after.triangles ≡ written (flatten (listed_of job)) before.triangles
  unfolding accepted
  triangles_are = ap (λ (r : Result). r.left.triangles) is

  pub work_is : after.work ≡ written (work_with job (final_of job)) before.work
  unfolding accepted
  work_is = ap (λ (r : Result). r.left.work) is

  pub taken_is : o.taken ≡ taken (answers_of job)
  unfolding accepted
  taken_is = ap (λ (r : Result). r.taken) is

  pub triangles_is : o.triangles ≡ length (listed_of job)
  unfolding accepted
  triangles_is = ap (λ (r : Result). r.triangles) is

  pub place_is : o.place ≡ 0
  unfolding accepted
  place_is = ap (λ (r : Result). r.place) is
