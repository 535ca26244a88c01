-- Document 02 (vii) is kept: corner tallies in the work area.
use Rattle.std.specs.Prelude.{◌≡◌, List, ℕ, ◌+◌, ◌*◌, ◌≤◌, ◌<◌, length, get_or}
use Rattle.std.proofs.Math.Path.{refl, ap}
use Rattle.std.proofs.Common.{sym, ◌∙◌, arith}
use Rattle.rules.specs.Proposals.{inside_in}
use Rattle.rules.specs.Work.{tally, every_row}
use Rattle.rules.specs.Job.{track, header_of, Job, job_of, standing, final_of, work_with, Lent, written, Result, accepted, run}
use Rattle.rules.specs.Made.{with_proposals, cut_to}
use Rattle.rules.specs.Laws.Written.{written_at}
use Rattle.rules.specs.Laws.Job.{job_ids, job_corners, job_rows}
use Rattle.rules.specs.Laws.Made.{track_small}
use Rattle.rules.specs.Reading.Codes.{RoomShort}
use Rattle.rules.proofs.Reading.Codes.{accepted_header}
use Rattle.rules.specs.Reading.Work.{work_length, work_inside, work_every, inside_tallied, every_tallied}
use Rattle.manifold.specs.Jobs.{cut_run}
use Rattle.track.specs.Outcomes.{Outcome, result_of}
use Rattle.track.specs.Accepted.{job_accepted, work_is}
use Rattle.demands.specs.Demands.{CornerTallies}

module _ (bytes : List ℕ) (before : Lent) {o : Outcome} {after : Lent} (ran : result_of o after ≡ run track bytes before) (zero_code : o.code ≡ 0) where
  abbrev job : Job
  job = job_of track bytes

  abbrev area : List ℕ
  area = work_with job (final_of job)

  zero : (run track bytes before).code ≡ 0
  zero = job_accepted bytes before ran zero_code

  corners_rows : job.table.corners * job.table.rows ≡ 4 * (header_of bytes).rows
  corners_rows = rw (job_corners track bytes, job_rows track bytes)

  area_long : length area ≡ 4 * (header_of bytes).rows + 2 * (header_of bytes).ids
  area_long = omega (arith, work_length job.table job.ids (final_of job), corners_rows, job_ids track bytes)

  word_is : (k : ℕ) → k < 4 * (header_of bytes).rows + 2 * (header_of bytes).ids → get_or after.work k 0 ≡ get_or area k 0
  word_is k l = ap (λ (xs : List ℕ). get_or xs k 0) (work_is bytes before ran zero_code) ∙ written_at area before.work k (rw area_long l)

  module _ (v : ℕ) (l : v < (header_of bytes).ids) where
    inside_is : get_or after.work (4 * (header_of bytes).rows + v) 0 ≡ tally job.table (inside_in (final_of job)) v
    inside_is = word_is (4 * (header_of bytes).rows + v) (omega arith) ∙ ap (λ (n : ℕ). get_or area (n + v) 0) (sym corners_rows) ∙ work_inside job.table job.ids (final_of job) v (rw (job_ids track bytes) l)

    all_is : get_or after.work (4 * (header_of bytes).rows + (header_of bytes).ids + v) 0 ≡ tally job.table every_row v
    all_is =
        word_is (4 * (header_of bytes).rows + (header_of bytes).ids + v) (omega arith)
        ∙ ap (λ (n : ℕ). get_or area (n + v) 0) (omega (arith, corners_rows, job_ids track bytes))
        ∙ work_every job.table job.ids (final_of job) v (rw (job_ids track bytes) l)

  stopped : (k : ℕ) → k ≤ (header_of bytes).proposals → (lent : Lent) → (RoomShort track (with_proposals (header_of bytes) k) lent → ⊥)
      → (run track (cut_to track k bytes) lent).left.work ≡ written (work_with job (standing job k)) lent.work
  unfolding accepted
  stopped k few lent room =
      ap (λ (r : Result). r.left.work) (cut_run track bytes before refl zero (omega arith) (track_small (header_of bytes) (accepted_header track bytes before zero).0) k few lent room)

  pub corner_tallies : CornerTallies bytes before o after
  corner_tallies = record {
    inside_at = λ v l. rw (inside_is v l, ← job_rows track bytes) (inside_tallied job.table v (final_of job));
    all_at = λ v l. rw (all_is v l, ← job_rows track bytes) (every_tallied job.table v);
    each_step = stopped;
  }
