-- The fifteen codes: the condition of each, and what each leaves. That each is given, with its place, exactly if its condition holds there and
-- none before it does is proved in `proofs.Reading.Codes`.
use Rattle.std.proofs.Math.Path.{◌≡◌, sym, ap}
use Rattle.std.proofs.Common.{◌∙◌, zero-lt-suc}
use Rattle.std.specs.Prelude.{◌⊎◌, ◌↔◌, ◌≢◌, Bool, true, false, ◌&&◌, ◌||◌, length, get_or, drop, replicate}
use Rattle.std.proofs.Math.Logic.{⊎_elim}
use Rattle.std.proofs.Math.Bool.{not}
use Rattle.std.proofs.Math.Option.{Option, some, none}
use mathlib.Core.List.{List, [], ◌∷◌, ◌++◌}
use Prim.Native.Nat.{ℕ, ◌+◌, ◌-◌, ◌≤◌, ◌<◌}
use native.Mathlib.Omega.{arith}
use Rattle.std.proofs.Math.Dec.{eqb}
use Rattle.std.proofs.Math.ListN.{length-replicate}
use borrow.Author.Tests.{ne_eqb, not-false, le-leb, lt-leb}
use Rattle.rules.specs.Below.{lowest}
use Rattle.rules.specs.Table.{Table, rising, ids_below}
use Rattle.rules.specs.Skin.{ringless, clean}
use Rattle.rules.specs.Points.{Point, on_grid, at_origin}
use Rattle.rules.specs.Outward.{off_grid, flat, folded}
use Rattle.rules.specs.First.{first_match}
use Rattle.rules.specs.Proposals.{inside_in}
use Rattle.rules.specs.Job.{Form, Header, header_word, header_of, has_points, most_ids, most_rows, most_proposals, least, within, within_limits, rows_at, marks_at, proposals_at, whole_length, laid_out, Job, job_of, clean_with, Lent, work_room, list_room, short_rooms, room_short, written, codes, layout_tests, room_tests, bad_row, table_tests, mark_tests, shown, point_tests, section_tests, job_tests, Result, accepted, refused, verdict_on, run}
use Rattle.rules.specs.Laws.Truth.{and_reads, or_reads, or_no_first, eqb_reads, ltb_reads, leb_reads, same_or_not}
use Rattle.rules.specs.Laws.Below.{lowest_none, none_any}
use Rattle.rules.specs.Laws.First.{Reads, given_none, match_parts, match_below, match_zero, match_none}
use Rattle.rules.specs.Reading.Rows.{First, lowest_first, Rising, rising_reads, IdsBelow, ids_below_reads, Before}
use Rattle.rules.specs.Reading.Closed.{TrianglesShared, EdgesJoined, VerticesJoined, Closed}
use Rattle.rules.specs.Reading.Skin.{Inside, SkinVertex, SkinTriangle}
use Rattle.rules.specs.Reading.Outer.{Unlike}
use Rattle.rules.specs.Reading.Points.{OffGrid, off_grid_reads, Flat, flat_reads, Folded, folded_reads}
use Rattle.rules.specs.Reading.Ring.{OneRing}

-- ---- the header and the room

abbrev pub Within : ℕ → ℕ → ℕ → Type 0
Within low n high = (low ≤ n) × (n ≤ high)

module _ (f : Form) where
  -- for a track V 5 to 1,024, N 5 to 2,048, P 0 to 1,024
  abbrev pub WithinLimits : Header → Type 0
  WithinLimits h = (Within (least f) h.ids most_ids × Within (least f) h.rows most_rows) × Within 0 h.proposals most_proposals

  pub limits_read : (h : Header) → (within_limits f h ≡ true) ↔ WithinLimits h
  unfolding within_limits
  limits_read h =
      and_reads (and_reads (range (least f) h.ids most_ids) (range (least f) h.rows most_rows)) (range 0 h.proposals most_proposals)
    where
      range : (low n high : ℕ) → (within low n high ≡ true) ↔ Within low n high
      range low n high = and_reads (leb_reads low n) (leb_reads n high)

  -- word 7 of a job with points: for a track 1 or 3
  abbrev pub WithPoints : Header → Type 0
  WithPoints h = (h.mode ≡ f.mode + 1) ⊎ (h.mode ≡ f.mode + 3)

  pub with_points_reads : (h : Header) → (has_points f h ≡ true) ↔ WithPoints h
  unfolding has_points
  with_points_reads h = or_reads (eqb_reads h.mode (f.mode + 1)) (eqb_reads h.mode (f.mode + 3))

  -- words 3 to 7 are, for a track, 32, 32 + 16N, 32 + 17N, 32 + 17N + 8P and 0, or with points 32 + 17N + 8P + 6V and 1 or 3, and word 6 is
  -- the length lent
  abbrev pub LaidOut : Header → List ℕ → Type 0
  LaidOut h bytes =
      (((((header_word bytes 3 ≡ rows_at) × (header_word bytes 4 ≡ marks_at f h)) × (header_word bytes 5 ≡ proposals_at f h))
      × (header_word bytes 6 ≡ whole_length f h)) × ((h.mode ≡ f.mode) ⊎ WithPoints h)) × (header_word bytes 6 ≡ length bytes)

  -- where none of the codes 1 to 3 is given, the header is within its limits and laid out
  pub laid_passed : (bytes : List ℕ) → (first_match 1 (layout_tests f bytes)).code ≡ 0 → (within_limits f (header_of bytes) ≡ true) × (laid_out f (header_of bytes) bytes ≡ true)
  unfolding layout_tests
  laid_passed bytes e =
      let (_, e2) = match_zero 1 (zero-lt-suc 0) _ _ e in
      let (n2, e3) = match_zero 2 (zero-lt-suc 1) _ _ e2 in
      let (n3, _) = match_zero 3 (zero-lt-suc 2) _ _ e3 in
      (not-false (within_limits f (header_of bytes)) (given_none _ n2), not-false (laid_out f (header_of bytes) bytes) (given_none _ n3))

  -- answers under P bytes, final marks under N bytes, and for a track triangles under 6N words, work under 4N words
  abbrev pub RoomShort : Header → Lent → Type 0
  RoomShort h lent =
      (((length lent.answers < h.proposals) ⊎ (length lent.final_marks < h.rows)) ⊎ (length lent.triangles < list_room f h))
      ⊎ (length lent.work < work_room f h)

  pub room_reads : (h : Header) (lent : Lent) → (room_short f h lent ≡ true) ↔ RoomShort h lent
  unfolding room_short short_rooms
  room_reads h lent =
      or_reads
      (or_reads (or_reads (ltb_reads (length lent.answers) h.proposals) (ltb_reads (length lent.final_marks) h.rows))
      (ltb_reads (length lent.triangles) (list_room f h))) (ltb_reads (length lent.work) (work_room f h))

-- ---- rows, table and marks

abbrev pub table_conditions : Table → ℕ → List (ℕ → Type 0)
table_conditions t id_count =
    -- 5: a row's ids not strictly rising, or an id not below V
    First t.rows (λ r. (Rising t r × IdsBelow t id_count r) → ⊥)
    -- 6: a row not after the one before it
    ∷ First t.rows (λ r. (0 < r) × (Before t (r - 1) r → ⊥))
    -- 7, 8, 9: triangle rule, edge rule, vertex rule broken
    ∷ First t.rows (λ r. TrianglesShared t r → ⊥)
    ∷ First t.rows (λ r. EdgesJoined t r → ⊥)
    ∷ First t.rows (λ r. VerticesJoined t r → ⊥)
    ∷ []

abbrev pub mark_conditions : Table → ℕ → List ℕ → List (ℕ → Type 0)
mark_conditions t id_count marks =
    -- 10: a mark that is not 0 or 1
    First t.rows (λ r. ((get_or marks r 0 ≡ 0) ⊎ (get_or marks r 0 ≡ 1)) → ⊥)
    -- 11: an outer row whose mark differs from that of the lowest outer row
    ∷ First t.rows (Unlike t marks)
    -- 12: starting skin not clean: a skin vertex without one ring
    ∷ First id_count (λ v. SkinVertex t (Inside marks) v × (OneRing id_count (SkinTriangle t (Inside marks) v) → ⊥))
    ∷ []

-- there are points, and they are so
abbrev pub Shown : Option (ℕ → Point) → ((ℕ → Point) → Type 0) → Type 0
Shown none P = ⊥
Shown (some at) P = P at

abbrev pub point_conditions : Table → ℕ → Option (ℕ → Point) → List (ℕ → Type 0)
point_conditions t id_count points =
    -- 13: a point out of range, or id 0 not zero
    (λ place. Shown points (λ at. First id_count (OffGrid at) place))
    -- 14: a finite row of zero volume
    ∷ (λ place. Shown points (λ at. First t.rows (Flat t at) place))
    -- 15: two finite neighbours on the same side of their triangle
    ∷ (λ place. Shown points (λ at. First t.rows (Folded t at) place))
    ∷ []

module _ (t : Table) (id_count : ℕ) where
  pub rows_read : (r : ℕ) → (rising t r && ids_below t id_count r ≡ true) ↔ (Rising t r × IdsBelow t id_count r)
  rows_read r = and_reads (rising_reads t r) (ids_below_reads t id_count r)

  -- a test at each row that never fails holds at each row
  pub each_row : (p : ℕ → Bool) → lowest t.rows (λ r. not (p r)) ≡ none → (r : ℕ) → r < t.rows → p r ≡ true
  each_row p e r l = not-false (p r) (lowest_none t.rows (λ r. not (p r)) e r l)

  pub all_rising : lowest t.rows (bad_row t id_count) ≡ none → (r : ℕ) → r < t.rows → Rising t r
  all_rising e r l = ((rows_read r).0 (each_row (λ r. rising t r && ids_below t id_count r) e r l)).0

  -- codes 13 to 15
  pub points_read : (points : Option (ℕ → Point)) → Closed t id_count → Reads (point_tests t id_count points) (point_conditions t id_count points)
  unfolding point_tests shown
  points_read none closed = (nothing, λ _. (nothing, λ _. (nothing, λ _. tt)))
    where
      nothing : (place : ℕ) → (◌≡◌ {A = Option ℕ} none (some place)) ↔ ⊥
      nothing place = (λ e. let z : ◌≡◌ {A = ℕ} 0 1 = cc in omega arith, λ x. absurd x)
  points_read (some at) closed = (
    lowest_first id_count (off_grid at) (OffGrid at) (λ v _. off_grid_reads at v),
    λ _. (
      lowest_first t.rows (flat t at) (Flat t at) (λ r _. flat_reads t at r),
      λ _. (lowest_first t.rows (folded t at) (Folded t at) (folded_reads t closed.paired at), λ _. tt),
    ),
  )

-- ---- the fifteen codes

-- codes 5 to 9, 10 to 12, and 13 to 15
abbrev pub section_conditions : Job → List (ℕ → Type 0)
section_conditions job =
    table_conditions job.table job.ids ++ (mark_conditions job.table job.ids job.marks ++ point_conditions job.table job.ids job.points)

module _ (f : Form) (bytes : List ℕ) (lent : Lent) where
  -- The rows of document 01's table of codes. Those with place 0 say so.
  abbrev pub job_conditions : List (ℕ → Type 0)
  job_conditions =
      -- 1: under 32 bytes
      (λ place. (length bytes < rows_at) × (place ≡ 0))
      -- 2: V, N or P outside its limits
      ∷ (λ place. (WithinLimits f (header_of bytes) → ⊥) × (place ≡ 0))
      -- 3: a word 3 to 7 differs from the table, or word 6 from the length lent
      ∷ (λ place. (LaidOut f (header_of bytes) bytes → ⊥) × (place ≡ 0))
      -- 4: lent room short
      ∷ (λ place. RoomShort f (header_of bytes) lent × (place ≡ 0))
      ∷ section_conditions (job_of f bytes)

-- ---- the run

module _ (f : Form) (bytes : List ℕ) (lent : Lent) where
  pub run_accepted : (verdict_on f bytes lent).code ≡ 0 → run f bytes lent ≡ accepted (job_of f bytes) lent
  unfolding run
  run_accepted e = rw e

  run_refused : (verdict_on f bytes lent).code ≢ 0 → run f bytes lent ≡ refused f (header_of bytes) (verdict_on f bytes lent) lent
  unfolding run
  run_refused ne = rw (ne_eqb (verdict_on f bytes lent).code 0 ne)

  -- its code and place are the verdict's
  pub run_code : (run f bytes lent).code ≡ (verdict_on f bytes lent).code
  unfolding accepted refused
  run_code =
      ⊎_elim (λ e. ap (λ (r : Result). r.code) (run_accepted e) ∙ sym e) (λ ne. ap (λ (r : Result). r.code) (run_refused ne))
      (same_or_not (verdict_on f bytes lent).code 0)

  pub run_place : (run f bytes lent).place ≡ (verdict_on f bytes lent).place
  unfolding accepted refused verdict_on
  run_place =
      ⊎_elim (λ e. ap (λ (r : Result). r.place) (run_accepted e) ∙ sym (match_none 1 (zero-lt-suc 0) (job_tests f bytes lent) e))
      (λ ne. ap (λ (r : Result). r.place) (run_refused ne)) (same_or_not (verdict_on f bytes lent).code 0)

  -- a code from 0 to 15
  pub run_code_below : (run f bytes lent).code ≤ codes
  unfolding verdict_on job_tests layout_tests room_tests table_tests mark_tests point_tests
  run_code_below = rw run_code (omega (arith, match_below 1 (zero-lt-suc 0) (job_tests f bytes lent)))

  -- ---- what an accepted job keeps

  module _ (ran : (run f bytes lent).code ≡ 0) where
    pub layout_passed : (first_match 1 (layout_tests f bytes)).code ≡ 0
    unfolding verdict_on job_tests
    layout_passed = (match_parts 1 (zero-lt-suc 0) (layout_tests f bytes) _ (sym run_code ∙ ran)).0

    pub later_passed : (first_match 4 (room_tests f (header_of bytes) lent ++ section_tests (job_of f bytes))).code ≡ 0
    unfolding verdict_on job_tests layout_tests
    later_passed = (match_parts 1 (zero-lt-suc 0) (layout_tests f bytes) _ (sym run_code ∙ ran)).1

    pub sections_passed : (first_match 5 (section_tests (job_of f bytes))).code ≡ 0
    unfolding room_tests
    sections_passed = (match_parts 4 (zero-lt-suc 3) (room_tests f (header_of bytes) lent) _ later_passed).1

    marks_on : (first_match 10 (mark_tests (job_of f bytes).table (job_of f bytes).ids (job_of f bytes).marks ++ point_tests (job_of f bytes).table (job_of f bytes).ids (job_of f bytes).points)).code ≡ 0
    unfolding table_tests
    marks_on = (match_parts 5 (zero-lt-suc 4) (table_tests (job_of f bytes).table (job_of f bytes).ids) _ sections_passed).1

    pub marks_passed : (first_match 10 (mark_tests (job_of f bytes).table (job_of f bytes).ids (job_of f bytes).marks)).code ≡ 0
    marks_passed = (match_parts 10 (zero-lt-suc 9) (mark_tests (job_of f bytes).table (job_of f bytes).ids (job_of f bytes).marks) _ marks_on).0

    pub points_passed : (first_match 13 (point_tests (job_of f bytes).table (job_of f bytes).ids (job_of f bytes).points)).code ≡ 0
    unfolding mark_tests
    points_passed = (match_parts 10 (zero-lt-suc 9) (mark_tests (job_of f bytes).table (job_of f bytes).ids (job_of f bytes).marks) _ marks_on).1

    -- each mark is 0 or 1
    pub accepted_marks : (r : ℕ) → r < (job_of f bytes).table.rows → (get_or (job_of f bytes).marks r 0 ≡ 0) ⊎ (get_or (job_of f bytes).marks r 0 ≡ 1)
    unfolding mark_tests
    accepted_marks r l =
        let marks = (job_of f bytes).marks in
        let (n10, _) = match_zero 10 (zero-lt-suc 9) _ _ marks_passed in
        (or_reads (eqb_reads (get_or marks r 0) 0) (eqb_reads (get_or marks r 0) 1)).0
        (each_row (job_of f bytes).table (job_of f bytes).ids (λ r. eqb (get_or marks r 0) 0 || eqb (get_or marks r 0) 1) n10 r l)

    -- the starting skin is clean
    pub accepted_clean : clean_with (job_of f bytes) (job_of f bytes).marks ≡ true
    unfolding mark_tests clean
    accepted_clean =
        let (_, e11) = match_zero 10 (zero-lt-suc 9) _ _ marks_passed in
        let (_, e12) = match_zero 11 (zero-lt-suc 10) _ _ e11 in
        let (n12, _) = match_zero 12 (zero-lt-suc 11) _ _ e12 in
        let broken = ringless (job_of f bytes).table (inside_in (job_of f bytes).marks) (job_of f bytes).ids in
        ap not (none_any (job_of f bytes).ids broken (lowest_none (job_of f bytes).ids broken n12))

    -- where there are points, no finite row is flat, and no two finite neighbours are on the same side of their triangle
    pub accepted_points : (at : ℕ → Point) → (job_of f bytes).points ≡ some at
        → ((r : ℕ) → r < (job_of f bytes).table.rows → flat (job_of f bytes).table at r ≡ false)
        × ((r : ℕ) → r < (job_of f bytes).table.rows → folded (job_of f bytes).table at r ≡ false)
    unfolding point_tests shown
    accepted_points at is =
        let t = (job_of f bytes).table in
        let (_, e14) = match_zero 13 (zero-lt-suc 12) _ _ (rw is at points_passed) in
        let (n14, e15) = match_zero 14 (zero-lt-suc 13) _ _ e14 in
        let (n15, _) = match_zero 15 (zero-lt-suc 14) _ _ e15 in
        (lowest_none t.rows (flat t at) n14, lowest_none t.rows (folded t at) n15)

    -- where there are points, each is in range
    pub accepted_grid : (at : ℕ → Point) → (job_of f bytes).points ≡ some at → (v : ℕ) → v < (job_of f bytes).ids → on_grid (at v) ≡ true
    unfolding point_tests shown off_grid
    accepted_grid at is v l =
        let (n13, _) = match_zero 13 (zero-lt-suc 12) _ _ (rw is at points_passed) in
        not-false (on_grid (at v)) (or_no_first (not (on_grid (at v))) (eqb v 0 && not (at_origin (at v))) (lowest_none (job_of f bytes).ids (off_grid at) n13 v l))

  -- ---- what a refusal leaves

  -- zero for both counts, and nothing changed in answers, final marks and triangles
  pub refusal_keeps : (run f bytes lent).code ≢ 0
      → ((run f bytes lent).taken ≡ 0) × ((run f bytes lent).triangles ≡ 0) × ((run f bytes lent).left.answers ≡ lent.answers)
      × ((run f bytes lent).left.final_marks ≡ lent.final_marks) × ((run f bytes lent).left.triangles ≡ lent.triangles)
  unfolding refused
  refusal_keeps ne =
      let e = run_refused (λ (z : (verdict_on f bytes lent).code ≡ 0). ne (run_code ∙ z)) in (
        ap (λ (r : Result). r.taken) e,
        ap (λ (r : Result). r.triangles) e,
        ap (λ (r : Result). r.left.answers) e,
        ap (λ (r : Result). r.left.final_marks) e,
        ap (λ (r : Result). r.left.triangles) e,
      )

  -- codes 1 to 4 don't touch work
  pub early_refusal : (run f bytes lent).code ≢ 0 → (run f bytes lent).code ≤ 4 → (run f bytes lent).left.work ≡ lent.work
  unfolding refused
  early_refusal ne l =
      ap (λ (r : Result). r.left.work) (run_refused (λ (z : (verdict_on f bytes lent).code ≡ 0). ne (run_code ∙ z)))
      ∙ rw (le-leb (verdict_on f bytes lent).code 4 (rw run_code at l))

  -- codes 5 to 15 leave zero in its front, for a track 4N words, and the rest unchanged
  pub late_refusal : 5 ≤ (run f bytes lent).code → (run f bytes lent).left.work ≡ replicate (work_room f (header_of bytes)) 0 ++ drop (work_room f (header_of bytes)) lent.work
  unfolding refused written
  late_refusal l =
      ap (λ (r : Result). r.left.work) (run_refused (λ (z : (verdict_on f bytes lent).code ≡ 0). omega (arith, run_code)))
      ∙ rw (lt-leb (verdict_on f bytes lent).code 4 (rw run_code at l), length-replicate {A = ℕ} (work_room f (header_of bytes)) 0)
