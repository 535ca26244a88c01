-- Demand 2 is kept.
use Rattle.std.specs.Prelude.{◌≡◌, refl, List, ℕ, ◌+◌, ◌*◌, ◌<◌, get_or, take}
use Rattle.std.proofs.Common.{sym, ◌∙◌, add-one, arith, take_all, take-suc}
use Rattle.std.proofs.Math.Path.{ap, subst}
use Rattle.std.proofs.Math.Seq.{take_at}
use Rattle.rules.specs.Skin.{triangle}
use Rattle.rules.specs.Proposals.{inside_in, answer, marks_after, final_marks, taken}
use Rattle.rules.specs.Job.{track, header_of, Job, job_of, answers_of, standing, final_of, work_with, Lent, written, run}
use Rattle.rules.specs.Laws.Count.{TheOther}
use Rattle.rules.specs.Laws.Written.{written_at}
use Rattle.rules.specs.Laws.Proposals.{answer_at, final_more}
use Rattle.rules.specs.Laws.Job.{job_corners, job_rows, job_proposals}
use Rattle.rules.proofs.Laws.Job.{job_answers}
use Rattle.rules.specs.Reading.Neighbours.{Side}
use Rattle.rules.specs.Reading.Closed.{across_is, across_other}
use Rattle.rules.specs.Reading.Work.{work_length, work_across}
use Rattle.rules.proofs.Reading.Answers.{answer_exactly, taken_exactly}
use Rattle.rules.specs.Reading.Skin.{inside_reads}
use Rattle.rules.specs.Reading.Room.{skin_same_length, skin_once, skin_listed}
use Rattle.rules.specs.Reading.Listing.{triangle_rises, sides_listed, skin_order}
use Rattle.manifold.specs.Steps.{after_taken, after_refused}
use Rattle.track.specs.Outcomes.{Outcome, result_of}
use Rattle.track.specs.Accepted.{job_closed, answers_are, marks_are, triangles_are, work_is, taken_is, triangles_is, place_is}
use Rattle.demands.specs.Demands.{proposal_at, Demand2}

module _ (bytes : List ℕ) (before : Lent) {o : Outcome} {after : Lent} (ran : result_of o after ≡ run track bytes before) (zero_code : o.code ≡ 0) where
  abbrev job : Job
  job = job_of track bytes

  -- ---- the answers

  taken_told : o.taken ≡ taken (take (header_of bytes).proposals after.answers)
  unfolding written
  taken_told = taken_is bytes before ran zero_code ∙ ap taken (sym (ap (take (header_of bytes).proposals) (answers_are bytes before ran zero_code) ∙ take_at (answers_of job) _ _ (job_answers track bytes)))

  -- answer k is that to proposal k on the marks that the proposals before it left
  pub each_answer : (k : ℕ) → k < (header_of bytes).proposals → get_or after.answers k 0 ≡ answer job.table (standing job k) (proposal_at job k)
  each_answer k l =
      ap (λ (xs : List ℕ). get_or xs k 0) (answers_are bytes before ran zero_code)
      ∙ written_at (answers_of job) before.answers k (rw (job_answers track bytes) l)
      ∙ answer_at job.table job.marks job.proposals _ k (rw (job_proposals track bytes) l)

  next : (k : ℕ) → k < (header_of bytes).proposals → standing job (k + 1) ≡ marks_after job.table (standing job k) (proposal_at job k)
  next k l =
      ap (final_marks job.table job.marks) (ap (λ (n : ℕ). take n job.proposals) (add-one k) ∙ take-suc job.proposals k _ (rw (job_proposals track bytes) l))
      ∙ final_more job.table job.marks (take k job.proposals) (proposal_at job k)

  pub final_is : final_of job ≡ standing job (header_of bytes).proposals
  final_is = ap (final_marks job.table job.marks) (sym (take_all (header_of bytes).proposals job.proposals (omega (arith, job_proposals track bytes))))

  neighbour : (r c : ℕ) → r < job.table.rows → c < 4 → (other : TheOther job.table.rows (Side job.table r c) r) × (get_or after.work (4 * r + c) 0 ≡ other.other)
  neighbour r c lr l =
      let t = job.table in
      let four = job_corners track bytes in
      let lc : c < t.corners = rw four l in
      let other = across_is (job_closed bytes before ran zero_code).paired r c lr lc in (
        other,
        ap (λ (xs : List ℕ). get_or xs (4 * r + c) 0) (work_is bytes before ran zero_code)
            ∙ written_at (work_with job (final_of job)) before.work (4 * r + c) (rw (work_length t job.ids (final_of job), four) (omega arith))
            ∙ ap (λ (n : ℕ). get_or (work_with job (final_of job)) (n * r + c) 0) (sym four)
            ∙ work_across t job.ids (final_of job) r c lr lc
            ∙ across_other t r c other,
      )

  pub demand_2 : Demand2 bytes before o after
  unfolding final_marks
  demand_2 =
      let t = job.table in
      let four = job_corners track bytes in
      let told = inside_reads (final_of job) in
      record {
        answered_exactly = λ k i l m.
            let (forth, back) = answer_exactly t (standing job k) (proposal_at job k) i m in (λ e. forth (sym (each_answer k l) ∙ e), λ x. each_answer k l ∙ back x);
        taken_exactly = λ k l.
            let (forth, back) = taken_exactly t (standing job k) (proposal_at job k) in (λ e. forth (sym (each_answer k l) ∙ e), λ x. each_answer k l ∙ back x);
        starts = refl;
        taken_flips = λ k l e. next k l ∙ after_taken t (standing job k) (proposal_at job k) (sym (each_answer k l) ∙ e);
        refused_keeps = λ k l ne. next k l ∙ after_refused t (standing job k) (proposal_at job k) (λ e. ne (each_answer k l ∙ e));
        ends = final_is;
        listed_exactly = sides_listed t four (job_closed bytes before ran zero_code).paired (inside_in (final_of job)) told;
        ids_rise = λ ids m.
            let x = (skin_listed t (inside_in (final_of job)) (triangle t) told ids).0 m in
            let (a, b, c, ab, bc, e) = triangle_rises t four (job_closed bytes before ran zero_code).paired x.row x.corner x.row_below (rw four at x.corner_below) in
            (a, b, c, ab, bc, x.ids_are ∙ e);
        listed_once = skin_once t (inside_in (final_of job)) (job_closed bytes before ran zero_code).paired four;
        in_order = skin_order t four (job_closed bytes before ran zero_code).paired (inside_in (final_of job)) told;
        neighbour_at =
            subst (λ (n : ℕ). (r c : ℕ) → r < n → c < 4 → (other : TheOther n (Side t r c) r) × (get_or after.work (4 * r + c) 0 ≡ other.other)) (job_rows track bytes) neighbour;
        taken_counted = taken_told;
        triangles_counted = triangles_is bytes before ran zero_code ∙ skin_same_length job.table (inside_in (final_of job)) _;
        place_zero = place_is bytes before ran zero_code;
        answers_left = answers_are bytes before ran zero_code;
        marks_left = marks_are bytes before ran zero_code;
        triangles_left = triangles_are bytes before ran zero_code;
        work_left = work_is bytes before ran zero_code;
      }
