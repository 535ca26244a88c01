-- The verdict on the header and the rooms, and what it leaves to decide.
use Rattle.std.specs.Prelude.{◌≡◌, refl, ◌≢◌, Bool, true, false, List, ◌++◌, ℕ, ◌≤◌, ◌<◌, leb, length, take, drop}
use Rattle.std.specs.Prelude as std
use Rattle.std.proofs.Math.Path.{sym, ap}
use Rattle.std.proofs.Common.{◌∙◌, inl, inr, arith, le_refl, lit<, lit≤, length-take-le}
use borrow.Author.Tests.{ne_eqb, le-leb}
use Rattle.rules.specs.Below.{found}
use Rattle.rules.specs.Table.{table_of}
use Rattle.rules.specs.First.{Test, given, Verdict, first_match}
use Rattle.rules.specs.Job.{track, header_of, within_limits, laid_out, short_rooms, room_short, most_ids, most_rows, work_room, rows_table, job_of, final_of, work_with, layout_tests, room_tests, section_tests, job_tests, Lent, refused, Result, verdict_on, run}
use Rattle.rules.specs.Laws.Truth.{not_both}
use Rattle.rules.specs.Laws.First.{match_append, match_below, match_front, match_here, match_later}
use Rattle.rules.specs.Reading.Work.{work_length}
use Rattle.rules.specs.Reading.Codes.{limits_read, RoomShort, room_reads}
use Rattle.rules.proofs.Reading.Codes.{laid_out_reads}
use Rattle.job.specs.declared.Header.{Header}
use Rattle.job.specs.declared.Refused.{Refused}
use Rattle.job.specs.Reading.{meant, header, verdict_of, header_in, laid_header}
use Rattle.track.specs.Outcomes.{lent, result_of, refusal}
use Rattle.track.specs.Stages as stages
use Rattle.track.specs.Stages.{decided, run_decided, from_table, with_rest, front_decides}

module _ (job : List ℕ) (buffers : Lent) where
  abbrev rest : List Test
  rest = section_tests (job_of track job)

  early : {v : Verdict} → verdict_on track job buffers ≡ v → v.code ≢ 0 → leb v.code 4 ≡ true → result_of (refusal v) buffers ≡ run track job buffers
  unfolding decided refused
  early {v} e ne small = sym (sym (run_decided job buffers) ∙ rw (e, ne_eqb v.code 0 ne, small))

  -- a header that is not laid out
  pub header_refused : {v : Verdict} → v ≡ first_match 1 (layout_tests track job) → v.code ≢ 0 → result_of (refusal v) buffers ≡ run track job buffers
  unfolding verdict_on job_tests layout_tests
  header_refused {v} is ne =
      let small = match_below 1 (lit< tt) (layout_tests track job) in
      early (match_front 1 (layout_tests track job) _ (rw is at ne) ∙ sym is) ne (le-leb v.code 4 (rw is (omega arith)))

  module _ {r : std.Result Header Refused} (is : (verdict_of r ≡ first_match 1 (layout_tests track job)) × (header_in r (header job) ≡ header job)) {h : Header} (laid : r ≡ std.Ok h) where
    facts : (h ≡ header job) × (within_limits track (header_of job) ≡ true) × (laid_out track (header_of job) job ≡ true)
    facts = laid_header job is laid

    pub few_ids_and_rows : (h.ids ≤ most_ids) × (h.rows ≤ most_rows)
    few_ids_and_rows = let (((_, ids), (_, rows)), _) = (limits_read track (header_of job)).0 facts.1 in rw facts.0 (ids, rows)

    from_room : verdict_on track job buffers ≡ first_match 4 (room_tests track (header_of job) buffers ++ rest)
    unfolding verdict_on job_tests layout_tests
    from_room = match_append 1 (lit< tt) (layout_tests track job) _ (ap (λ (v : Verdict). v.code) (sym (rw laid at is.0)))

    module _ {short : Bool} (told_short : short ≡ short_rooms track (meant h) (length buffers.answers) (length buffers.final_marks) (length buffers.triangles) (length buffers.work)) where
      short_is : short ≡ room_short track (header_of job) buffers
      unfolding room_short
      short_is = told_short ∙ ap (λ (x : Header). short_rooms track (meant x) (length buffers.answers) (length buffers.final_marks) (length buffers.triangles) (length buffers.work)) facts.0

      pub room_refused : short ≡ true → result_of (refusal (record { code = 4; place = 0 })) buffers ≡ run track job buffers
      unfolding room_tests given found
      room_refused on =
          early {v = record { code = 4; place = 0 }} (from_room ∙ match_here 4 _ _ 0 (ap (λ (b : Bool). found b 0) (sym short_is ∙ on))) (λ e. omega arith) refl

      module _ (off : short ≡ false) where
        enough : {n m : ℕ} → (n < m → RoomShort track (header_of job) buffers) → m ≤ n
        enough {n} {m} why =
            let no : n < m → ⊥ = λ (x : n < m). not_both ((room_reads track (header_of job) buffers).1 (why x)) (sym short_is ∙ off) in
            omega (arith, no)

        -- the buffers, of work only what is needed
        abbrev pub needed : Lent
        needed = lent buffers.answers buffers.final_marks buffers.triangles (take (work_room track (meant h)) buffers.work)

        pub work_fits : work_room track (meant h) ≤ length buffers.work
        work_fits = rw facts.0 (enough inr)

        pub laid_out_lem : stages.Laid h job needed
        laid_out_lem =
            let (((_, ids), (_, rows)), (_, proposals)) = (limits_read track (header_of job)).0 facts.1 in
            let (((_, six), _), whole) = (laid_out_reads track (header_of job) job).0 facts.2 in
            record {
              is = facts.0;
              few_ids = rw facts.0 ids;
              few = rw facts.0 rows;
              few_proposals = rw facts.0 proposals;
              long = rw facts.0 (sym whole ∙ six);
              answer_room = rw facts.0 (enough (λ x. inl (inl (inl x))));
              mark_room = rw facts.0 (enough (λ x. inl (inl (inr x))));
              triangle_room = rw facts.0 (enough (λ x. inl (inr x)));
              work_room_lem = length-take-le (work_room track (meant h)) buffers.work work_fits;
            }

        area_fits : length (work_with (job_of track job) (final_of (job_of track job))) ≤ work_room track (meant h)
        unfolding job_of rows_table table_of
        area_fits = rw (work_length (job_of track job).table (job_of track job).ids (final_of (job_of track job))) (rw facts.0 (le_refl (work_room track (header_of job))))

        pub room_enough : {r : Result} → r ≡ from_table h (job_of track job) needed → with_rest (drop (work_room track (meant h)) buffers.work) r ≡ run track job buffers
        unfolding room_tests given found
        room_enough e =
            ap (with_rest (drop (work_room track (meant h)) buffers.work)) e
            ∙ front_decides h (section_tests (job_of track job)) 5 (lit≤ tt) (job_of track job) area_fits buffers.answers buffers.final_marks buffers.triangles buffers.work work_fits
            ∙ ap (λ (x : Header). from_table x (job_of track job) buffers) facts.0
            ∙ ap (λ (v : Verdict). decided (header_of job) v (job_of track job) buffers)
            (sym (from_room ∙ match_later 4 _ _ (ap (λ (b : Bool). found b 0) (sym short_is ∙ off))))
            ∙ run_decided job buffers
