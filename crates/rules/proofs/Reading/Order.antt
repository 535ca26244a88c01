-- Which order a job with points asks for changes nothing but the order: of the job, and of its file. And how a file is made to ask for
-- rising ids.
use Rattle.std.specs.Prelude.{◌≡◌, refl, ◌≢◌, Bool, true, false, not, cond, ℕ, ◌+◌, ◌-◌, ◌*◌, ◌≤◌, ◌<◌, eqb, ltb, length, get_or, set}
use Rattle.std.proofs.Common.{sym, ◌∙◌, inl, inr, arith, lit<, length-set, drop-drop, drop-set-lt, get_or-set_same, get_or-set_other}
use Rattle.std.proofs.Math.Path.{ap, subst}
use mathlib.Core.List.{List, [], ◌∷◌, ◌++◌}
use Rattle.rules.specs.Below.{tabulate}
use Rattle.rules.specs.Outward.{triangle_as}
use Rattle.rules.specs.First.{given, Verdict, first_match}
use Rattle.rules.specs.Proposals.{inside_in}
use Rattle.rules.specs.Job.{Form, track, Header, header_word, header_of, within_limits, row_bytes, rows_at, marks_at, proposals_at, points_at, has_points, asks_outward, point_bytes, laid_out, section, rows_table, proposal_in, points_of, Job, job_by, job_of, final_of, skin_with, Lent, short_rooms, room_short, layout_tests, room_tests, section_tests, job_tests, Result, accepted, refused, verdict_on, run}
use Rattle.rules.specs.Made.{asking_for}
use Rattle.rules.specs.Laws.Truth.{or_second}
use Rattle.rules.specs.Laws.Words.{word_four}
use Rattle.rules.specs.Reading.Room.{skin_same_length}
use Rattle.rules.specs.Reading.Codes.{with_points_reads}
use Rattle.rules.specs.Reading.Order.{SameButTriangles, OtherOrder}

-- of an accepted job
order_alone : (outward : Bool) (job : Job) (lent : Lent) → SameButTriangles (accepted (asking_for outward job) lent) (accepted job lent)
unfolding accepted
order_alone outward job lent =
    let as_long = skin_same_length job.table (inside_in (final_of job)) in
    record {
      codes_same = refl;
      places_same = refl;
      taken_same = refl;
      triangles_same = as_long (triangle_as job.table outward job.points) ∙ sym (as_long (triangle_as job.table job.outward job.points));
      answers_same = refl;
      marks_same = refl;
      work_same = refl;
      refused_same = λ ne. absurd (ne refl);
    }

module _ (f : Form) {one other : List ℕ} (same : OtherOrder f one other) where
  abbrev h : Header
  h = header_of other

  -- its header with the other's word 7
  abbrev g : Header
  g = record { ids = h.ids; rows = h.rows; proposals = h.proposals; mode = (header_of one).mode }

  header_is : header_of one ≡ g
  unfolding header_of
  header_is = λ i. record { ids = same.words_same 0 (lit< tt) i; rows = same.words_same 1 (lit< tt) i; proposals = same.words_same 2 (lit< tt) i; mode = header_word one 7 }

  g_points : has_points f g ≡ true
  g_points = subst (λ (x : Header). has_points f x ≡ true) header_is ((with_points_reads f (header_of one)).1 same.one_points)

  h_points : has_points f h ≡ true
  h_points = (with_points_reads f h).1 same.other_points

  bytes_same : point_bytes f g ≡ point_bytes f h
  unfolding point_bytes
  bytes_same = rw (g_points, h_points)

  points_same : (bytes : List ℕ) → points_of f g bytes ≡ points_of f h bytes
  unfolding points_of
  points_same bytes = rw (g_points, h_points)

  section_same : (start size : ℕ) → rows_at ≤ start → section one start size ≡ section other start size
  section_same start size l =
      let from : rows_at + (start - rows_at) ≡ start = omega arith in
      rw (← from, ← drop-drop (start - rows_at) rows_at one, ← drop-drop (start - rows_at) rows_at other, same.behind_same)

  job_is : job_of f one ≡ asking_for (asks_outward f g) (job_of f other)
  unfolding job_of
  job_is =
      ap (λ (x : Header). job_by f x one) header_is
      ∙ λ i. record {
        ids = h.ids;
        table = rows_table f h.rows (section_same rows_at (row_bytes f * h.rows) (omega arith) i);
        marks = section_same (marks_at f h) h.rows (omega arith) i;
        proposals = tabulate h.proposals (proposal_in (section_same (proposals_at f h) (8 * h.proposals) (omega arith) i));
        points = held i;
        outward = asks_outward f g;
      }
    where
      held : points_of f g (section one (points_at f h) (point_bytes f g)) ≡ points_of f h (section other (points_at f h) (point_bytes f h))
      held = rw (bytes_same, section_same (points_at f h) (point_bytes f h) (omega arith)) (points_same (section other (points_at f h) (point_bytes f h)))

  -- the same skin: what is left in triangles is it, in the one order or in the other
  pub skin_same : skin_with (job_of f one) (final_of (job_of f one)) ≡ skin_with (job_of f other) (final_of (job_of f other))
  skin_same = ap (λ (j : Job). skin_with j (final_of j)) job_is

  laid_same : laid_out f (header_of one) one ≡ laid_out f h other
  unfolding laid_out
  laid_same =
      ap (λ (x : Header). laid_out f x one) header_is
      ∙ rw (
        same.words_same 3 (lit< tt),
        same.words_same 4 (lit< tt),
        same.words_same 5 (lit< tt),
        same.words_same 6 (lit< tt),
        bytes_same,
        or_second (eqb (header_of one).mode f.mode) g_points,
        or_second (eqb h.mode f.mode) h_points,
        same.as_long,
      )

  -- the same tests decide
  layout_same : layout_tests f one ≡ layout_tests f other
  unfolding layout_tests within_limits
  layout_same = λ i.
      (λ _. given (ltb (same.as_long i) rows_at)) ∷ (λ _. given (not (ap (within_limits f) header_is i))) ∷ (λ _. given (not (laid_same i))) ∷ []

  rooms_same : (lent : Lent) → room_tests f (header_of one) lent ≡ room_tests f h lent
  unfolding room_tests room_short short_rooms
  rooms_same lent = ap (λ (x : Header). room_tests f x lent) header_is

  verdict_same : (lent : Lent) → verdict_on f one lent ≡ verdict_on f other lent
  unfolding verdict_on job_tests
  verdict_same lent = λ i. first_match 1 (layout_same i ++ (rooms_same lent i ++ section_tests (job_is i)))

  -- so a file that asks for the other order is refused alike, or answered, counted and left alike but for triangles
  pub other_order : (lent : Lent) → SameButTriangles (run f one lent) (run f other lent)
  unfolding run refused
  other_order lent = subst (λ (r : Result). SameButTriangles r (run f other lent)) (sym one_is) (go (eqb (verdict_on f other lent).code 0))
    where
      v : Verdict
      v = verdict_on f other lent

      one_is : run f one lent ≡ cond (eqb v.code 0) (accepted (asking_for (asks_outward f g) (job_of f other)) lent) (refused f h v lent)
      one_is = λ i. cond (eqb (verdict_same lent i).code 0) (accepted (job_is i) lent) (refused f (header_is i) (verdict_same lent i) lent)

      go : (b : Bool) → SameButTriangles (cond b (accepted (asking_for (asks_outward f g) (job_of f other)) lent) (refused f h v lent)) (cond b (accepted (job_of f other) lent) (refused f h v lent))
      go true = order_alone (asks_outward f g) (job_of f other) lent
      go false = record { codes_same = refl; places_same = refl; taken_same = refl; triangles_same = refl; answers_same = refl; marks_same = refl; work_same = refl; refused_same = λ ne. refl }

-- ---- a track whose word 7 is 1, its byte 28 made 3

module _ (bytes : List ℕ) (one : (header_of bytes).mode ≡ 1) (long : 28 < length bytes) where
  kept : (k : ℕ) → k ≢ 28 → get_or (set bytes 28 3) k 0 ≡ get_or bytes k 0
  kept k ne = get_or-set_other bytes 28 k 3 0 ne

  -- word 7 is made 3 by it
  asks_rising : (header_of (set bytes 28 3)).mode ≡ 3
  unfolding header_of
  asks_rising =
      let was = word_four bytes 28 in
      word_four (set bytes 28 3) 28
      ∙ rw (get_or-set_same bytes 28 3 0 long, kept 29 (λ e. omega arith), kept 30 (λ e. omega arith), kept 31 (λ e. omega arith)) (omega (arith, was, one))

  asks_other : OtherOrder track (set bytes 28 3) bytes
  asks_other = record {
    words_same = λ i l.
        word_four (set bytes 28 3) (4 * i)
        ∙ rw (kept (4 * i) (λ e. omega arith), kept (4 * i + 1) (λ e. omega arith), kept (4 * i + 2) (λ e. omega arith), kept (4 * i + 3) (λ e. omega arith)) (sym (word_four bytes (4 * i)));
    one_points = inr asks_rising;
    other_points = inl one;
    behind_same = drop-set-lt rows_at bytes 28 3 (lit< tt);
    as_long = length-set bytes 28 3;
  }

  -- so it is the same skin, listed by rising ids (`rising_unless` of the demands), and nothing else differs
  pub rising_as_before : (lent : Lent) → ((header_of (set bytes 28 3)).mode ≡ 3) × OtherOrder track (set bytes 28 3) bytes × SameButTriangles (run track (set bytes 28 3) lent) (run track bytes lent)
  rising_as_before lent = (asks_rising, asks_other, other_order track asks_other lent)
