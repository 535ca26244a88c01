-- A job that was run, and what its writer answers, as `rules` has it.
use Rattle.std.specs.Prelude as std
use Rattle.std.specs.Prelude.{◌≡◌, ◌≢◌, Bool, false, ℕ, ◌+◌, ◌-◌, ◌*◌, ◌≤◌, ◌<◌, eqb, get_or, take, drop}
use Rattle.std.proofs.Math.Path.{refl, sym, ap, subst}
use Rattle.std.proofs.Common.{◌∙◌, inl, inr, le_refl, arith, length-take-le}
use Rattle.std.proofs.Math.Bool.{true, cond}
use Rattle.std.proofs.Math.Option.{Option, some, none}
use mathlib.Core.List.{List, [], flatten}
use Rattle.std.proofs.Math.ListN.{length}
use Rattle.std.proofs.Math.Seq.{take_at}
use borrow.Author.Tests.{ne_eqb, lt-ltb, le-ltb}
use Rattle.rules.specs.Below.{found}
use Rattle.rules.specs.First.{given, Verdict, first_match}
use Rattle.rules.specs.Table.{Table, across}
use Rattle.rules.specs.Skin.{skin_as}
use Rattle.rules.specs.Points.{Point, point_in, on_grid}
use Rattle.rules.specs.Outward.{triangle_as}
use Rattle.rules.specs.Proposals.{inside_in}
use Rattle.rules.specs.Job.{track, header_of, most_ids, most_rows, most_proposals, has_points, asks_outward, point_bytes, rows_at, marks_at, points_at, whole_length, points_of, layout_tests, Job, job_of, final_of, work_with, listed_with, listed_of, Lent, work_room, written, run}
use Rattle.rules.specs.Stl.{most_facets, file_length, file_of, corners_of, outward_skin, skin_file, file_tests, unwritten, Exported, exported, write_skin}
use Rattle.rules.specs.Laws.First.{match_here, match_later, match_end}
use Rattle.rules.specs.Laws.Job.{job_ids, job_corners, job_rows}
use Rattle.rules.specs.Laws.Lists.{part_length}
use Rattle.rules.specs.Laws.Proposals.{final_length}
use Rattle.rules.specs.Laws.Written.{written_length, written_at, written_over}
use Rattle.rules.specs.Reading.Closed.{Paired}
use Rattle.rules.specs.Reading.Work.{work_length, work_across}
use Rattle.rules.specs.Reading.Codes.{RoomShort, layout_passed, accepted_grid}
use Rattle.rules.proofs.Reading.Codes.{accepted_room, accepted_header, accepted_length}
use Rattle.rules.specs.Reading.Room.{skin_same_length, skin_words, skin_fits}
use Rattle.rules.specs.Reading.Outward.{three_each}
use Rattle.job.specs.declared.Header.{Header}
use Rattle.job.specs.declared.Refused.{Refused}
use Rattle.job.specs.Reading.{meant, header, verdict_of}
use Rattle.table.specs.Rows.{rows_in, table_in}
use Rattle.table.specs.Ground.{Ground}
use Rattle.points.specs.Grid.{Grid}
use Rattle.track.specs.Refusals.{header_code}
use Rattle.track.specs.Outcomes.{Outcome, result_of}
use Rattle.track.specs.Accepted.{job_accepted, job_closed, marks_are, triangles_are, work_is, triangles_is}
use Rattle.track.specs.Cut.{counted, points_is, job_is}
use Rattle.track_stl.specs.Skins.{listed_as}

-- an outcome, the four buffers as left, and the file as left
abbrev pub told : Outcome → Lent → List ℕ → Exported
told o left file = record { result = result_of o left; file = file }

-- What a run that was accepted leaves: its header, rows that keep rules 5 to 7 with the neighbour list at the front of work, the final
-- marks and the skin in the order asked for at the fronts of their buffers, and where there are points, each in range.
pub record Ran (h : Header) (job final triangles work : List ℕ) : Type 0 where
  pub is : h ≡ header job
  pub few_ids : h.ids ≤ most_ids
  pub few : h.rows ≤ most_rows
  pub few_proposals : h.proposals ≤ most_proposals
  pub long : length job ≡ whole_length track (meant h)
  pub paired : Paired (job_of track job).table h.ids
  pub work_room_lem : 4 * h.rows ≤ length work
  pub neighbours : (r c : ℕ) → r < h.rows → c < 4 → get_or work (4 * r + c) 0 ≡ across (job_of track job).table r c
  pub mark_room : h.rows ≤ length final
  pub marks : take h.rows final ≡ final_of (job_of track job)
  pub triangle_room : 6 * h.rows ≤ length triangles
  pub listed : triangles ≡ written (flatten (listed_of (job_of track job))) triangles
  pub on_grid_lem : (at : ℕ → Point) → (job_of track job).points ≡ some at → (v : ℕ) → v < h.ids → on_grid (at v) ≡ true

-- the order that its header asks for is the job's
pub outward_told : {h : Header} {job final triangles work : List ℕ} → Ran h job final triangles work → asks_outward track (meant h) ≡ (job_of track job).outward
unfolding job_of
outward_told ran = ap (λ (x : Header). asks_outward track (meant x)) ran.is

-- at most 4,096 facets
pub outward_few : {h : Header} {job final triangles work : List ℕ} → Ran h job final triangles work → length (outward_skin (job_of track job)) ≤ most_facets
outward_few {h} {job} ran =
    let t = (job_of track job).table in
    let ids = triangle_as t true (job_of track job).points in
    let three = three_each t true (job_of track job).points (job_corners track job) in
    omega (
      arith,
      skin_words t (inside_in (final_of (job_of track job))) ids three,
      skin_fits t (inside_in (final_of (job_of track job))) ids three ran.paired (job_corners track job),
      job_rows track job,
      ap (λ (x : Header). x.rows) ran.is,
      ran.few,
    )

-- ---- the sections of its file

module _ {h : Header} {job final triangles work : List ℕ} (ran : Ran h job final triangles work) (on : has_points track (meant h) ≡ true)
    {a b d : ℕ} (ea : a ≡ rows_at) (eb : b ≡ marks_at track (meant h)) (ed : d ≡ points_at track (meant h)) where
  abbrev rows : List ℕ
  rows = take (b - a) (drop a job)

  abbrev marks : List ℕ
  marks = take h.rows final

  abbrev points : List ℕ
  points = take (length job - d) (drop d job)

  abbrev whole : Job
  whole = job_of track job

  rows_counted : rows_in rows ≡ h.rows
  rows_counted = counted job ran.is ran.long ea eb refl ed

  table_is : table_in rows ≡ whole.table
  table_is = ap (λ (j : Job). j.table) (job_is job ran.is ran.long ea eb refl ed)

  points_are : whole.points ≡ some (point_in points)
  unfolding points_of
  points_are = sym (rw on at (ap (λ (j : Job). j.points) (job_is job ran.is ran.long ea eb refl ed)))

  pub ground : Ground rows work h.ids
  ground = record {
    few = rw rows_counted ran.few;
    paired = subst (λ (t : Table). Paired t h.ids) (sym table_is) ran.paired;
    room = rw rows_counted ran.work_room_lem;
    at = λ r c lr lc. ran.neighbours r c (rw rows_counted at lr) lc ∙ ap (λ (t : Table). across t r c) (sym table_is);
  }

  pub grid : Grid points h.ids
  unfolding point_bytes
  grid = record {
    few = ran.few_ids;
    room =
        let long : length points ≡ point_bytes track (meant h) =
        ap length (points_is job ran.is ran.long ea eb refl ed) ∙ part_length job (points_at track (meant h)) (point_bytes track (meant h)) (omega (arith, ran.long)) in
        rw (long, on) (le_refl (6 * h.ids));
    on = ran.on_grid_lem (point_in points) points_are;
  }

  pub mark_each : rows_in rows ≤ length marks
  mark_each = rw (rows_counted, length-take-le h.rows final ran.mark_room) (le_refl h.rows)

  pub list_room : 6 * rows_in rows ≤ length triangles
  list_room = rw rows_counted ran.triangle_room

  -- the skin, in either order, is that of the job
  pub skin_is : (outward : Bool) → listed_as outward rows marks points ≡ listed_with outward whole (final_of whole)
  skin_is outward =
      rw (ran.marks, ← points_are) (ap (λ (t : Table). skin_as t (inside_in (final_of whole)) (triangle_as t outward whole.points)) table_is)

  pub asked_is : {asked : Bool} → asked ≡ whole.outward → triangles ≡ written (flatten (listed_as asked rows marks points)) triangles
  asked_is {asked} e = ran.listed ∙ ap (λ (x : List (List ℕ)). written (flatten x) triangles) (ap (λ (o : Bool). listed_with o whole (final_of whole)) (sym e) ∙ sym (skin_is asked))

  pub file_is : file_of (corners_of (point_in points) (listed_as true rows marks points)) ≡ skin_file whole
  unfolding skin_file
  file_is =
      subst (λ (o : Option (ℕ → Point)). file_of (corners_of (point_in points) (listed_as true rows marks points)) ≡ elim o [ some at ↦ file_of (corners_of at (outward_skin whole)) | none ↦ [] ]) (sym points_are)
      (ap (λ (x : List (List ℕ)). file_of (corners_of (point_in points) x)) (skin_is true))

-- ---- its answer

module _ {h : Header} (job : List ℕ) (is : h ≡ header job) (o : Outcome) (left : Lent) (file : List ℕ) where
  abbrev verdict : Verdict
  verdict = first_match 20 (file_tests track job o.triangles (length file))

  by : {v : Verdict} → verdict ≡ v → {r : Exported} → r ≡ cond (eqb v.code 0) (record { result = result_of o left; file = written (skin_file (job_of track job)) file }) (record { result = unwritten v left; file = file })
      → r ≡ exported track job (result_of o left) file
  unfolding exported
  by e same = same ∙ ap (λ (v : Verdict). cond (eqb v.code 0) (record { result = result_of o left; file = written (skin_file (job_of track job)) file }) (record { result = unwritten v left; file = file })) (sym e)

  points_told : has_points track (meant h) ≡ has_points track (header_of job)
  points_told = ap (λ (x : Header). has_points track (meant x)) is

  -- 20
  pub no_points : has_points track (meant h) ≡ false → told (record { code = 20; place = 0; taken = 0; triangles = 0 }) left file ≡ exported track job (result_of o left) file
  unfolding file_tests given found unwritten
  no_points off = by (match_here 20 _ _ 0 (rw (sym points_told ∙ off))) refl

  module _ (on : has_points track (meant h) ≡ true) where
    -- 21
    pub short_room : length file < file_length o.triangles → told (record { code = 21; place = 0; taken = 0; triangles = 0 }) left file ≡ exported track job (result_of o left) file
    unfolding file_tests given found unwritten
    short_room l =
        by (match_later 20 _ _ (rw (sym points_told ∙ on)) ∙ match_here 21 _ _ 0 (rw (lt-ltb (length file) (file_length o.triangles) l))) refl

    -- 0
    pub in_file : file_length o.triangles ≤ length file → {after : List ℕ} → after ≡ written (skin_file (job_of track job)) file → told o left after ≡ exported track job (result_of o left) file
    unfolding file_tests given found
    in_file l e =
        ap (told o left) e
        ∙ by (match_later 20 _ _ (rw (sym points_told ∙ on)) ∙ match_later 21 _ _ (rw (le-ltb (length file) (file_length o.triangles) l)) ∙ match_end 22) refl

-- ---- the run

module _ (job : List ℕ) (before : Lent) {o : Outcome} {after : Lent} (ran : result_of o after ≡ run track job before) (file : List ℕ) where
  pub run_refused : o.code ≢ 0 → told o after file ≡ write_skin track job before file
  unfolding write_skin
  run_refused ne = rw (← ran, ne_eqb o.code 0 ne)

  pub run_accepted : o.code ≡ 0 → {r : Exported} → r ≡ exported track job (result_of o after) file → r ≡ write_skin track job before file
  unfolding write_skin
  run_accepted z e = e ∙ sym (rw (← ran, z))

module _ (job : List ℕ) (before : Lent) {o : Outcome} {after : Lent} (run_is : result_of o after ≡ run track job before) (zero_code : o.code ≡ 0) where
  abbrev the : Job
  the = job_of track job

  acc : (run track job before).code ≡ 0
  acc = job_accepted job before run_is zero_code

  -- so it is laid out
  pub laid : (r : std.Result Header Refused) → verdict_of r ≡ first_match 1 (layout_tests track job) → (verdict_of r).code ≡ 0
  laid r e = ap (λ (v : Verdict). v.code) e ∙ layout_passed track job before acc

  enough : {n m : ℕ} → (n < m → RoomShort track (header_of job) before) → m ≤ n
  enough {n} {m} why = let no : n < m → ⊥ = λ (x : n < m). accepted_room track job before acc (why x) in omega (arith, no)

  four : the.table.corners ≡ 4
  four = job_corners track job

  rows_are : the.table.rows ≡ (header_of job).rows
  rows_are = job_rows track job

  skin_fits_in : length (flatten (listed_of the)) ≤ length before.triangles
  skin_fits_in = omega (
    arith,
    skin_fits the.table (inside_in (final_of the)) (triangle_as the.table the.outward the.points) (three_each the.table the.outward the.points four) (job_closed job before run_is zero_code).paired four,
    rows_are,
    enough {n = length before.triangles} {m = 6 * (header_of job).rows} (λ x. inl (inr x)),
  )

  final_long : length (final_of the) ≡ (header_of job).rows
  final_long = final_length the.table the.marks the.proposals ∙ accepted_length track job before acc ∙ rows_are

  area_long : length (work_with the (final_of the)) ≡ work_room track (header_of job)
  area_long = work_length the.table the.ids (final_of the) ∙ rw (four, rows_are, job_ids track job)

  marks_long : length after.final_marks ≡ length before.final_marks
  marks_long =
      ap length (marks_are job before run_is zero_code)
      ∙ written_length (final_of the) before.final_marks (rw final_long (enough {n = length before.final_marks} {m = (header_of job).rows} (λ x. inl (inl (inr x)))))

  triangles_long : length after.triangles ≡ length before.triangles
  triangles_long = ap length (triangles_are job before run_is zero_code) ∙ written_length (flatten (listed_of the)) before.triangles skin_fits_in

  work_long : length after.work ≡ length before.work
  work_long = ap length (work_is job before run_is zero_code) ∙ written_length (work_with the (final_of the)) before.work (rw area_long (enough inr))

  listed_still : after.triangles ≡ written (flatten (listed_of the)) after.triangles
  listed_still =
      let list = flatten (listed_of the) in
      triangles_are job before run_is zero_code ∙ sym (written_over list list before.triangles (le_refl (length list))) ∙ ap (written list) (sym (triangles_are job before run_is zero_code))

  marks_front : take (header_of job).rows after.final_marks ≡ final_of the
  unfolding written
  marks_front = ap (take (header_of job).rows) (marks_are job before run_is zero_code) ∙ take_at (final_of the) _ _ final_long

  neighbour_at : (r c : ℕ) → r < (header_of job).rows → c < 4 → get_or after.work (4 * r + c) 0 ≡ across the.table r c
  neighbour_at r c lr lc =
      ap (λ (xs : List ℕ). get_or xs (4 * r + c) 0) (work_is job before run_is zero_code)
      ∙ written_at (work_with the (final_of the)) before.work (4 * r + c) (rw area_long (omega arith))
      ∙ ap (λ (n : ℕ). get_or (work_with the (final_of the)) (n * r + c) 0) (sym four)
      ∙ work_across the.table the.ids (final_of the) r c (rw rows_are lr) (rw four lc)

  pub ran_is : {h : Header} → h ≡ header job → Ran h job after.final_marks after.triangles after.work
  ran_is e = rw e (
      let (((_, ids), (_, rows)), (_, proposals)) = (accepted_header track job before acc).0 in
      let (((_, six), _), whole) = (accepted_header track job before acc).1 in
      record {
        is = refl;
        few_ids = ids;
        few = rows;
        few_proposals = proposals;
        long = sym whole ∙ six;
        paired = subst (Paired the.table) (job_ids track job) (job_closed job before run_is zero_code).paired;
        work_room_lem = omega (arith, work_long, enough {n = length before.work} {m = work_room track (header_of job)} inr);
        neighbours = neighbour_at;
        mark_room = rw marks_long (enough (λ x. inl (inl (inr x))));
        marks = marks_front;
        triangle_room = rw triangles_long (enough (λ x. inl (inr x)));
        listed = listed_still;
        on_grid_lem = λ at is v l. accepted_grid track job before acc at is v (rw (job_ids track job) l);
      })

  -- the outcome tells how long the file is
  pub triangles_told : o.triangles ≡ length (outward_skin the)
  triangles_told =
      triangles_is job before run_is zero_code ∙ skin_same_length the.table (inside_in (final_of the)) _ ∙ sym (skin_same_length the.table (inside_in (final_of the)) _)

-- what is read with code 0 is a header
pub header_read : {r : std.Result Header Refused} → (verdict_of r).code ≡ 0 → ((h : Header) → r ≡ std.Ok h → ⊥) → ⊥
header_read {r = std.Ok h} z unread = unread h refl
header_read {r = std.Err e} z unread = header_code e z
