-- The sections of a job that is laid out, and what the verdict on its table leaves to decide.
use Rattle.std.specs.Prelude.{◌≡◌, refl, ◌≢◌, false, List, ℕ, ◌+◌, ◌-◌, ◌*◌, ◌≤◌, leb, length, get_or, take, drop, replicate}
use Rattle.std.specs.Prelude as std
use Rattle.std.proofs.Math.Path.{sym, ap}
use Rattle.std.proofs.Common.{◌∙◌, ⊎_elim, le_refl, arith, lit<, lit≤}
use Rattle.std.proofs.lemmas.List.{length-replicate}
use borrow.Author.Tests.{ne_eqb}
use Rattle.rules.specs.First.{Test, Verdict, first_match}
use Rattle.rules.specs.Table.{neighbour_list}
use Rattle.rules.specs.Job as rules
use Rattle.rules.specs.Job.{track, rows_at, marks_at, proposals_at, points_at, point_bytes, points_of, Job, job_of, final_of, work_with, Lent, work_room, written, table_tests, Result, accepted, refused}
use Rattle.rules.specs.Laws.Truth.{same_or_not}
use Rattle.rules.specs.Laws.First.{match_append, match_front}
use Rattle.rules.specs.Laws.Lists.{part_length}
use Rattle.rules.specs.Laws.Written.{written_length, written_at, written_over}
use Rattle.rules.specs.Reading.Closed.{Closed, list_length, list_at}
use Rattle.rules.proofs.Reading.Codes.{closed_reads}
use Rattle.rules.specs.Reading.Work.{list_shorter}
use Rattle.job.specs.declared.Header.{Header}
use Rattle.job.specs.Reading.{meant}
use Rattle.table.specs.declared.Broken.{Broken}
use Rattle.track.specs.Refusals.{broken_code}
use Rattle.table.specs.Rows.{table_in}
use Rattle.table.specs.Closed.{verdict_of, left_of}
use Rattle.table.specs.Ground.{Ground}
use Rattle.track.specs.Outcomes.{lent, result_of, refusal}
use Rattle.track.specs.Cut.{counted, marks_is, points_is, proposals_counted, job_is}
use Rattle.track.specs.Stages.{decided, job_in, from_table, later_tests, from_marks, late, all_zero, Ready, Laid}

-- a refused table leaves zeros, a closed one what was written
left_refused : (b : std.Result (Unit {0}) Broken) (work : List ℕ) → (verdict_of b).code ≢ 0 → left_of b work ≡ replicate (length work) 0
unfolding left_of
left_refused (std.Ok _) work ne = absurd (ne refl)
left_refused (std.Err b) work ne = refl

left_closed : (b : std.Result (Unit {0}) Broken) (work : List ℕ) → (verdict_of b).code ≡ 0 → left_of b work ≡ work
unfolding left_of
left_closed (std.Ok _) work z = refl
left_closed (std.Err b) work z = absurd (broken_code b z)

-- what was written to work before is written over
same_left : (h : rules.Header) (tests : List Test) (code : ℕ) → 5 ≤ code → (job : Job) (answers final triangles work work₀ : List ℕ)
    → length (neighbour_list job.table) ≤ work_room track h → work ≡ written (neighbour_list job.table) work₀
    → decided h (first_match code tests) job (lent answers final triangles work) ≡ decided h (first_match code tests) job (lent answers final triangles work₀)
unfolding decided accepted refused
same_left h tests code l job answers final triangles work work₀ fits ew =
    ⊎_elim (λ (z : (first_match code tests).code ≡ 0). rw (z, ew, written_over area list work₀ (list_shorter job.table job.ids (final_of job))))
    (λ (ne : (first_match code tests).code ≡ 0 → ⊥). rw (ne_eqb (first_match code tests).code 0 ne, late code l tests ne, ew, over)) (same_or_not (first_match code tests).code 0)
  where
    list : List ℕ
    list = neighbour_list job.table

    area : List ℕ
    area = work_with job (final_of job)

    over : written (replicate (work_room track h) 0) (written list work₀) ≡ written (replicate (work_room track h) 0) work₀
    over = written_over (replicate (work_room track h) 0) list work₀ (rw (length-replicate {A = ℕ} (work_room track h) 0) fits)

module _ {h : Header} {job : List ℕ} {buffers : Lent} (l : Laid h job buffers)
    {a b c d : ℕ} (ea : a ≡ rows_at) (eb : b ≡ marks_at track (meant h)) (ec : c ≡ proposals_at track (meant h)) (ed : d ≡ points_at track (meant h)) where
  -- the sections, as they are cut out
  abbrev rows : List ℕ
  rows = take (b - a) (drop a job)

  abbrev marks : List ℕ
  marks = take (c - b) (drop b job)

  abbrev proposals : List ℕ
  proposals = take (d - c) (drop c job)

  abbrev points : List ℕ
  points = take (length job - d) (drop d job)

  module _ (broken : std.Result (Unit {0}) Broken) (found : verdict_of broken ≡ first_match 5 (table_tests (table_in rows) h.ids))
      {work : List ℕ} (left : work ≡ left_of broken (written (neighbour_list (table_in rows)) buffers.work)) where
    list_fits : length (neighbour_list (table_in rows)) ≤ work_room track (meant h)
    list_fits = omega (arith, list_length (table_in rows), counted job l.is l.long ea eb ec ed)

    kept : length (written (neighbour_list (table_in rows)) buffers.work) ≡ length buffers.work
    kept = written_length (neighbour_list (table_in rows)) buffers.work (rw l.work_room_lem list_fits)

    pub table_refused : (verdict_of broken).code ≢ 0 → result_of (refusal (verdict_of broken)) (lent buffers.answers buffers.final_marks buffers.triangles work) ≡ from_table h (job_of track job) buffers
    unfolding decided refused
    table_refused ne =
        rw (← (job_is job l.is l.long ea eb ec ed))
        (rw (
          match_front 5 (table_tests (table_in rows) h.ids) (later_tests (table_in rows) h.ids marks (points_of track (meant h) points)) (λ z. off (ap (λ (v : Verdict). v.code) found ∙ z)),
          ← found,
          ne_eqb (verdict_of broken).code 0 off,
          small,
          left,
          left_refused broken (written (neighbour_list (table_in rows)) buffers.work) off,
          kept,
          all_zero h buffers.work l.work_room_lem,
        ))
      where
        off : (verdict_of broken).code ≢ 0
        off z = ne z

        small : leb (verdict_of broken).code 4 ≡ false
        small = ap (λ (v : Verdict). leb v.code 4) found ∙ late 5 (lit≤ tt) (table_tests (table_in rows) h.ids) (λ z. off (ap (λ (v : Verdict). v.code) found ∙ z))

    module _ (z : (verdict_of broken).code ≡ 0) where
      is_closed : Closed (table_in rows) h.ids
      is_closed = (closed_reads (table_in rows) h.ids 5 (lit< tt)).0 (ap (λ (v : Verdict). v.code) (sym found) ∙ z)

      listed : work ≡ written (neighbour_list (table_in rows)) buffers.work
      listed = left ∙ left_closed broken (written (neighbour_list (table_in rows)) buffers.work) z

      work_long : length work ≡ work_room track (meant h)
      work_long = ap length listed ∙ kept ∙ l.work_room_lem

      ground : Ground rows work h.ids
      ground = record {
        few = rw (counted job l.is l.long ea eb ec ed) l.few;
        paired = is_closed.paired;
        room = omega (arith, counted job l.is l.long ea eb ec ed, work_long);
        at = λ r c lr lc.
            ap (λ (xs : List ℕ). get_or xs (4 * r + c) 0) listed
            ∙ written_at (neighbour_list (table_in rows)) buffers.work (4 * r + c) (rw (list_length (table_in rows)) (omega arith))
            ∙ list_at (table_in rows) r c lr lc;
      }

      pub ready : Ready h rows marks proposals points (lent buffers.answers buffers.final_marks buffers.triangles work)
      ready = record {
        few_ids = l.few_ids;
        closed = is_closed;
        ground = ground;
        each = ap length (marks_is job l.is l.long ea eb ec ed) ∙ part_length job (marks_at track (meant h)) h.rows (omega (arith, l.long)) ∙ sym (counted job l.is l.long ea eb ec ed);
        points_long = ap length (points_is job l.is l.long ea eb ec ed) ∙ part_length job (points_at track (meant h)) (point_bytes track (meant h)) (omega (arith, l.long));
        listed = listed ∙ sym (ap (written (neighbour_list (table_in rows))) listed
            ∙ written_over (neighbour_list (table_in rows)) (neighbour_list (table_in rows)) buffers.work (le_refl (length (neighbour_list (table_in rows)))));
        counted = counted job l.is l.long ea eb ec ed;
        work_room_lem = work_long;
        answer_room = rw (proposals_counted job l.is l.long ea eb ec ed) l.answer_room;
        mark_room = rw (counted job l.is l.long ea eb ec ed) l.mark_room;
        triangle_room = rw (counted job l.is l.long ea eb ec ed) l.triangle_room;
      }

      pub table_passed : {r : Result} → r ≡ from_marks h (job_in h rows marks proposals points) (lent buffers.answers buffers.final_marks buffers.triangles work)
          → r ≡ from_table h (job_of track job) buffers
      unfolding table_tests
      table_passed {r} e =
          e
          ∙ same_left (meant h) (later_tests (table_in rows) h.ids marks (points_of track (meant h) points)) 10 (lit≤ tt) (job_in h rows marks proposals points)
          buffers.answers buffers.final_marks buffers.triangles work buffers.work list_fits listed
          ∙ ap (λ (v : Verdict). decided (meant h) v (job_in h rows marks proposals points) buffers)
          (sym (match_append 5 (lit< tt) (table_tests (table_in rows) h.ids) (later_tests (table_in rows) h.ids marks (points_of track (meant h) points)) (ap (λ (v : Verdict). v.code) (sym found) ∙ z)))
          ∙ ap (λ (j : Job). from_table h j buffers) (job_is job l.is l.long ea eb ec ed)
