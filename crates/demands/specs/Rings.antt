-- Demand 3 is kept.
use Rattle.std.specs.Prelude.{◌≡◌, ◌↔◌, true, false, ℕ, ◌+◌, ◌≤◌, ◌<◌, length, take, replicate}
use Rattle.std.proofs.Math.Path.{refl, ap}
use Rattle.std.proofs.Common.{sym, ◌∙◌, arith}
use mathlib.Core.List.{List}
use Rattle.std.proofs.Math.Seq.{take_at}
use Rattle.rules.specs.Proposals.{Proposal, inside_in, answer, RefusedByCases}
use Rattle.rules.specs.Job.{track, header_of, Job, job_of, answers_of, standing, final_of, clean_with, Lent, written, Result, accepted, run}
use Rattle.rules.specs.Made.{with_proposals, cut_to, remade}
use Rattle.rules.specs.Laws.Truth.{is_false, not_both}
use Rattle.rules.specs.Laws.Proposals.{answers_length, final_length, taken_few}
use Rattle.rules.specs.Laws.Job.{job_corners, job_rows}
use Rattle.rules.proofs.Laws.Job.{job_answers}
use Rattle.rules.specs.Laws.Made.{track_small}
use Rattle.rules.specs.Reading.Skin.{inside_reads}
use Rattle.rules.proofs.Reading.Ring.{clean_plain}
use Rattle.rules.specs.Reading.Answers.{triangles_read}
use Rattle.rules.specs.Reading.Codes.{RoomShort}
use Rattle.rules.proofs.Reading.Codes.{accepted_header, accepted_length}
use Rattle.manifold.specs.Steps.{flipped, taken_earlier, refused_earlier, undoing, undoing_front, undoing_length}
use Rattle.manifold.specs.Jobs.{cut_run}
use Rattle.manifold.proofs.Jobs.{job_every_step, job_five_cases, job_backwards, undone_run}
use Rattle.track.specs.Outcomes.{Outcome, result_of}
use Rattle.track.specs.Accepted.{job_accepted, job_closed, answers_are, marks_are, taken_is}
use Rattle.demands.specs.Demands.{proposal_at, CleanWith, PassesAt, OnSkinAt, marks_back, backwards, Demand3}
use Rattle.demands.specs.Grown.{each_answer, final_is}

module _ (bytes : List ℕ) (before : Lent) {o : Outcome} {after : Lent} (ran : result_of o after ≡ run track bytes before) (zero_code : o.code ≡ 0) where
  abbrev job : Job
  job = job_of track bytes

  zero : (run track bytes before).code ≡ 0
  zero = job_accepted bytes before ran zero_code

  -- the test says so
  clean_is : (marks : List ℕ) → (clean_with job marks ≡ true) ↔ CleanWith job marks
  clean_is marks = clean_plain job.table (job_corners track bytes) (inside_in marks) (inside_reads marks) job.ids (job_closed bytes before ran zero_code).paired

  steps : (k : ℕ) → CleanWith job (standing job k)
  steps k = (clean_is (standing job k)).0 (job_every_step track bytes before refl zero k)

  -- ---- what is lent back

  marks_back_lem : marks_back bytes before o after ≡ final_of job
  unfolding written
  marks_back_lem =
      ap (take (header_of bytes).rows) (marks_are bytes before ran zero_code)
      ∙ take_at (final_of job) _ _ (final_length job.table job.marks job.proposals ∙ accepted_length track bytes before zero ∙ job_rows track bytes)

  abbrev back : List Proposal
  back = undoing (answers_of job) job.proposals

  one_each : length (answers_of job) ≡ length job.proposals
  one_each = answers_length job.table job.marks job.proposals

  backwards_is : backwards bytes before o after ≡ back
  unfolding written
  backwards_is = ap (λ (xs : List ℕ). undoing xs job.proposals) (answers_are bytes before ran zero_code) ∙ undoing_front (answers_of job) _ job.proposals one_each

  many : length back ≡ o.taken
  many = undoing_length (answers_of job) job.proposals one_each ∙ sym (taken_is bytes before ran zero_code)

  -- ---- one proposal

  module _ (k : ℕ) (l : k < (header_of bytes).proposals) where
    abbrev p : Proposal
    p = proposal_at job k

    abbrev given : ℕ
    given = answer job.table (standing job k) p

    taken_then : (given ≡ 0) ↔ (PassesAt job k × CleanWith job (flipped (standing job k) p))
    taken_then = (
      λ e.
          let off = taken_earlier job.table (standing job k) p e in
          (off, (clean_is (flipped (standing job k) p)).0 ((job_five_cases track bytes before refl zero k p off).0.0 e)),
      λ (off, c). (job_five_cases track bytes before refl zero k p off).0.1 ((clean_is (flipped (standing job k) p)).1 c),
    )

    unclean : clean_with job (flipped (standing job k) p) ≡ false → CleanWith job (flipped (standing job k) p) → ⊥
    unclean n c = not_both ((clean_is (flipped (standing job k) p)).1 c) n

    not_clean : (CleanWith job (flipped (standing job k) p) → ⊥) → clean_with job (flipped (standing job k) p) ≡ false
    not_clean n = is_false (clean_with job (flipped (standing job k) p)) (λ e. n ((clean_is (flipped (standing job k) p)).0 e))

    refused_then : RefusedByCases given ↔ (PassesAt job k × (CleanWith job (flipped (standing job k) p) → ⊥))
    refused_then = (
      λ e.
          let off = refused_earlier job.table (standing job k) p e in
          (off, unclean ((job_five_cases track bytes before refl zero k p off).1.0 e)),
      λ (off, n). (job_five_cases track bytes before refl zero k p off).1.1 (not_clean n),
    )

    case_then : (f : ℕ) → f < 3 → (given ≡ 5 + f) ↔ (PassesAt job k × OnSkinAt job k f × (CleanWith job (flipped (standing job k) p) → ⊥))
    case_then f few = (
      λ e.
          let off = refused_earlier job.table (standing job k) p (omega (arith, e), omega (arith, e, few)) in
          let (here, n) = ((job_five_cases track bytes before refl zero k p off).2 f).0 e in
          (off, (triangles_read job.table (standing job k) p.row f).0 here, unclean n),
      λ (off, here, n). ((job_five_cases track bytes before refl zero k p off).2 f).1 ((triangles_read job.table (standing job k) p.row f).1 here, not_clean n),
    )

  -- ---- as jobs

  module _ (lent : Lent) where
    undone : (RoomShort track (with_proposals (header_of bytes) (length back)) lent → ⊥)
        → ((run track (remade track (final_of job) back bytes) lent).code ≡ 0)
        × ((run track (remade track (final_of job) back bytes) lent).left.answers ≡ written (replicate (length back) 0) lent.answers)
        × ((run track (remade track (final_of job) back bytes) lent).left.final_marks ≡ written job.marks lent.final_marks)
    unfolding accepted
    undone room =
        let is = undone_run track bytes before refl zero (omega arith) (track_small (header_of bytes) (accepted_header track bytes before zero).0) lent room in
        let (answers, final) = job_backwards track bytes before refl zero in (
          ap (λ (r : Result). r.code) is,
          ap (λ (r : Result). r.left.answers) is ∙ ap (λ (xs : List ℕ). written xs lent.answers) answers,
          ap (λ (r : Result). r.left.final_marks) is ∙ ap (λ (xs : List ℕ). written xs lent.final_marks) final,
        )

    stopped : (k : ℕ) → k ≤ (header_of bytes).proposals → (RoomShort track (with_proposals (header_of bytes) k) lent → ⊥)
        → ((run track (cut_to track k bytes) lent).code ≡ 0) × ((run track (cut_to track k bytes) lent).left.final_marks ≡ written (standing job k) lent.final_marks)
    unfolding accepted
    stopped k few room =
        let is = cut_run track bytes before refl zero (omega arith) (track_small (header_of bytes) (accepted_header track bytes before zero).0) k few lent room in
        (ap (λ (r : Result). r.code) is, ap (λ (r : Result). r.left.final_marks) is)

  pub demand_3 : Demand3 bytes before o after
  demand_3 = record {
    every_step = steps;
    final_standing = marks_back_lem ∙ final_is bytes before ran zero_code;
    final_clean = rw (marks_back_lem ∙ final_is bytes before ran zero_code) (steps (header_of bytes).proposals);
    refused_only_then = λ k l. rw (each_answer bytes before ran zero_code k l) (refused_then k l);
    each_case_only_then = λ k f l few. rw (each_answer bytes before ran zero_code k l) (case_then k l f few);
    taken_only_then = λ k l. rw (each_answer bytes before ran zero_code k l) (taken_then k l);
    as_many = ap length backwards_is ∙ many;
    no_more = omega (arith, ap length backwards_is, many, taken_is bytes before ran zero_code, taken_few (answers_of job), job_answers track bytes);
    undone = rw (marks_back_lem, backwards_is) undone;
    cut = λ k few lent room. stopped lent k few room;
  }
