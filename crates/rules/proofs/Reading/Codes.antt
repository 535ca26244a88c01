-- The fifteen codes, as `specs.Reading.Codes` says them: each is given, with its place, exactly if its condition holds there and none before it
-- does; and what an accepted job keeps by the conditions that did not hold.
use Rattle.std.proofs.Math.Path.{◌≡◌, sym, ap}
use Rattle.std.proofs.Common.{◌∙◌, zero-lt-suc, length-drop}
use Rattle.std.specs.Prelude.{◌⊎◌, ◌↔◌, true, ◌&&◌, ◌||◌, length, get_or, drop}
use Rattle.std.proofs.Math.Logic.Iff
use Rattle.std.proofs.Math.Bool.{not}
use Rattle.std.proofs.Math.Option.{Option, none}
use mathlib.Core.List.{List, [], ◌++◌}
use Prim.Native.Nat.{ℕ, zero, suc, ◌+◌, ◌-◌, ◌<◌}
use native.Mathlib.Omega.{arith}
use Rattle.std.proofs.Math.Dec.{eqb}
use Rattle.std.proofs.Math.Seq.{length-take-le}
use borrow.Author.Tests.{lt-ltb}
use Rattle.rules.specs.Below.{found, lowest}
use Rattle.rules.specs.Table.{Table, table_of, rising, ids_below, before, triangles_shared, edges_joined, vertices_joined}
use Rattle.rules.specs.Skin.{ringless}
use Rattle.rules.specs.Points.{Point}
use Rattle.rules.specs.First.{Test, given, Verdict, first_match}
use Rattle.rules.specs.Proposals.{inside_in}
use Rattle.rules.specs.Job.{Form, Header, header_word, header_of, rows_at, marks_at, proposals_at, whole_length, laid_out, rows_table, Job, job_of, Lent, room_short, codes, layout_tests, room_tests, bad_row, not_after, table_tests, unlike, mark_tests, point_tests, section_tests, job_tests, accepted, verdict_on, run}
use Rattle.rules.specs.Laws.Job.{job_corners}
use Rattle.rules.specs.Laws.Truth.{is_true, is_false, not_both, and_both, not_reads, and_reads, or_reads, eqb_reads, ltb_reads}
use Rattle.rules.specs.Laws.Below.{lowest_none}
use Rattle.rules.specs.Laws.First.{Reads, FirstOf, condition_at, first_reads, none_reads, given_reads, given_none, match_parts, match_both, match_zero}
use Rattle.rules.specs.Reading.Rows.{lowest_first, Rising, IdsBelow, Before, before_reads}
use Rattle.rules.specs.Reading.Closed.{TrianglesShared, triangles_read, EdgesJoined, edges_read, VerticesJoined, vertices_read, Paired, Closed}
use Rattle.rules.specs.Reading.Skin.{Inside, inside_reads, SkinVertex, SkinTriangle, skin_vertex_reads}
use Rattle.rules.specs.Reading.Outer.{OuterAlike, Unlike, unlike_reads, alike_exactly}
use Rattle.rules.specs.Reading.Ring.{OneRing, Clean, one_ring_reads, ring_plain}
use Rattle.rules.specs.Reading.Codes.{WithinLimits, limits_read, with_points_reads, LaidOut, laid_passed, RoomShort, room_reads, table_conditions, mark_conditions, point_conditions, rows_read, each_row, all_rising, points_read, job_conditions, run_accepted, run_code, run_place, layout_passed, later_passed, sections_passed, marks_passed}

-- ---- the header and the room

module _ (f : Form) where
  pub laid_out_reads : (h : Header) (bytes : List ℕ) → (laid_out f h bytes ≡ true) ↔ LaidOut f h bytes
  unfolding laid_out
  laid_out_reads h bytes =
      and_reads
      (and_reads
      (and_reads
      (and_reads (and_reads (eqb_reads (header_word bytes 3) rows_at) (eqb_reads (header_word bytes 4) (marks_at f h))) (eqb_reads (header_word bytes 5) (proposals_at f h)))
      (eqb_reads (header_word bytes 6) (whole_length f h))) (or_reads (eqb_reads h.mode f.mode) (with_points_reads f h)))
      (eqb_reads (header_word bytes 6) (length bytes))

-- ---- rows, table and marks

module _ (t : Table) (id_count : ℕ) where
  -- what the tests have shown where none matched: the first three, and all five
  pub none_paired : lowest t.rows (bad_row t id_count) ≡ none → lowest t.rows (not_after t) ≡ none
      → lowest t.rows (λ r. not (triangles_shared t r)) ≡ none → Paired t id_count
  none_paired none5 none6 none7 = record {
    rising = all_rising t id_count none5;
    below = λ r l. ((rows_read t id_count r).0 (each_row t id_count (λ r. rising t r && ids_below t id_count r) none5 r l)).1;
    ordered = λ r pos l. (before_reads t (r - 1) r).0 (is_true (before t (r - 1) r) (λ f.
        not_both (and_both (lt-ltb 0 r pos) (ap not f)) (lowest_none t.rows (not_after t) none6 r l)));
    two = λ r l. (triangles_read t r).0 (each_row t id_count (triangles_shared t) none7 r l);
  }

  none_closed : lowest t.rows (bad_row t id_count) ≡ none → lowest t.rows (not_after t) ≡ none
      → lowest t.rows (λ r. not (triangles_shared t r)) ≡ none → lowest t.rows (λ r. not (edges_joined t r)) ≡ none
      → lowest t.rows (λ r. not (vertices_joined t r)) ≡ none → Closed t id_count
  none_closed none5 none6 none7 none8 none9 = record {
    paired = none_paired none5 none6 none7;
    edges = λ r l. (edges_read t (all_rising t id_count none5) r).0 (each_row t id_count (edges_joined t) none8 r l);
    vertices = λ r l. (vertices_read t (all_rising t id_count none5) r).0 (each_row t id_count (vertices_joined t) none9 r l);
  }

  -- codes 5 to 9, and what comes after them on a closed table
  table_reads : (tests : List Test) (conditions : List (ℕ → Type 0)) → (Closed t id_count → Reads tests conditions)
      → Reads (table_tests t id_count ++ tests) (table_conditions t id_count ++ conditions)
  unfolding table_tests
  table_reads tests conditions rest = (
    lowest_first t.rows (bad_row t id_count) (λ r. (Rising t r × IdsBelow t id_count r) → ⊥) (λ r _. not_reads (rows_read t id_count r)),
    λ none5. (
      lowest_first t.rows (not_after t) (λ r. (0 < r) × (Before t (r - 1) r → ⊥))
          (λ r _. and_reads (ltb_reads 0 r) (not_reads (before_reads t (r - 1) r))),
      λ none6. (
        lowest_first t.rows (λ r. not (triangles_shared t r)) (λ r. TrianglesShared t r → ⊥) (λ r _. not_reads (triangles_read t r)),
        λ none7. (
          lowest_first t.rows (λ r. not (edges_joined t r)) (λ r. EdgesJoined t r → ⊥) (λ r _. not_reads (edges_read t (all_rising t id_count none5) r)),
          λ none8. (
            lowest_first t.rows (λ r. not (vertices_joined t r)) (λ r. VerticesJoined t r → ⊥) (λ r _. not_reads (vertices_read t (all_rising t id_count none5) r)),
            λ none9. rest (none_closed none5 none6 none7 none8 none9),
          ),
        ),
      ),
    ),
  )

  -- no code from 5 to 9 exactly if the table is closed
  pub closed_reads : (code : ℕ) → 0 < code → ((first_match code (table_tests t id_count)).code ≡ 0) ↔ Closed t id_count
  unfolding table_tests
  closed_reads code pos = (forth, λ c. (none_reads code pos (table_tests t id_count) (table_conditions t id_count) (table_reads [] [] (λ _. tt))).1 (broken c))
    where
      forth : (first_match code (table_tests t id_count)).code ≡ 0 → Closed t id_count
      forth e =
          let (n5, e6) = match_zero code pos _ _ e in
          let (n6, e7) = match_zero (suc code) (zero-lt-suc code) _ _ e6 in
          let (n7, e8) = match_zero (suc (suc code)) (zero-lt-suc (suc code)) _ _ e7 in
          let (n8, e9) = match_zero (suc (suc (suc code))) (zero-lt-suc (suc (suc code))) _ _ e8 in
          let (n9, _) = match_zero (suc (suc (suc (suc code)))) (zero-lt-suc (suc (suc (suc code)))) _ _ e9 in
          none_closed n5 n6 n7 n8 n9

      broken : Closed t id_count → (i place : ℕ) → condition_at (table_conditions t id_count) i place → ⊥
      broken c zero place f = f.is (c.paired.rising place f.below, c.paired.below place f.below)
      broken c (suc zero) place f = f.is.1 (c.paired.ordered place f.is.0 f.below)
      broken c (suc (suc zero)) place f = f.is (c.paired.two place f.below)
      broken c (suc (suc (suc zero))) place f = f.is (c.edges place f.below)
      broken c (suc (suc (suc (suc zero)))) place f = f.is (c.vertices place f.below)
      broken c (suc (suc (suc (suc (suc i))))) place f = f

  -- codes 10 to 12, and what comes after them, on a closed table of four corners
  marks_read : t.corners ≡ 4 → (marks : List ℕ) → Closed t id_count → (tests : List Test) (conditions : List (ℕ → Type 0)) → Reads tests conditions
      → Reads (mark_tests t id_count marks ++ tests) (mark_conditions t id_count marks ++ conditions)
  unfolding mark_tests ringless
  marks_read four marks closed tests conditions rest = (
    lowest_first t.rows (λ r. not (eqb (get_or marks r 0) 0 || eqb (get_or marks r 0) 1)) (λ r. ((get_or marks r 0 ≡ 0) ⊎ (get_or marks r 0 ≡ 1)) → ⊥)
        (λ r _. not_reads (or_reads (eqb_reads (get_or marks r 0) 0) (eqb_reads (get_or marks r 0) 1))),
    λ _. (
      lowest_first t.rows (unlike t marks) (Unlike t marks) (unlike_reads t marks),
      λ _. (
        lowest_first id_count (ringless t (inside_in marks) id_count)
            (λ v. SkinVertex t (Inside marks) v × (OneRing id_count (SkinTriangle t (Inside marks) v) → ⊥))
            (λ v _. and_reads (skin_vertex_reads t four (inside_in marks) (inside_reads marks) closed.paired v)
            (not_reads (Iff.trans (one_ring_reads t (inside_in marks) id_count v) (ring_plain t four (inside_in marks) (inside_reads marks) id_count v)))),
        λ _. rest,
      ),
    ),
  )

  -- codes 10 to 15
  later_read : t.corners ≡ 4 → (marks : List ℕ) (points : Option (ℕ → Point)) → Closed t id_count
      → Reads (mark_tests t id_count marks ++ point_tests t id_count points) (mark_conditions t id_count marks ++ point_conditions t id_count points)
  later_read four marks points closed = marks_read four marks closed (point_tests t id_count points) (point_conditions t id_count points) (points_read t id_count points closed)

  -- marks of 0 and 1, outer rows alike and a clean skin: none of the codes 10 to 12
  pub marks_fit : t.corners ≡ 4 → (marks : List ℕ) → Closed t id_count → ((r : ℕ) → r < t.rows → (get_or marks r 0 ≡ 0) ⊎ (get_or marks r 0 ≡ 1))
      → OuterAlike t marks → Clean t (Inside marks) id_count → (first_match 10 (mark_tests t id_count marks)).code ≡ 0
  unfolding mark_tests
  marks_fit four marks closed binary alike rings = (none_reads 10 (zero-lt-suc 9) (mark_tests t id_count marks) (mark_conditions t id_count marks) (marks_read four marks closed [] [] tt)).1 off
    where
      off : (i place : ℕ) → condition_at (mark_conditions t id_count marks) i place → ⊥
      off zero r f = f.is (binary r f.below)
      off (suc zero) r f = (alike_exactly t marks).1 alike r f.below f.is
      off (suc (suc zero)) v f = f.is.1 (rings v f.below f.is.0)
      off (suc (suc (suc i))) place f = f

-- ---- the fifteen codes

module _ (f : Form) (bytes : List ℕ) (lent : Lent) where
  codes_read : f.corners ≡ 4 → Reads (job_tests f bytes lent) (job_conditions f bytes lent)
  unfolding job_tests layout_tests room_tests
  codes_read four =
      let job = job_of f bytes in (
        given_reads (ltb_reads (length bytes) rows_at),
        λ _. (
          given_reads (not_reads (limits_read f (header_of bytes))),
          λ _. (
            given_reads (not_reads (laid_out_reads f (header_of bytes) bytes)),
            λ _. (
              given_reads (room_reads f (header_of bytes) lent),
              λ _. table_reads job.table job.ids (mark_tests job.table job.ids job.marks ++ point_tests job.table job.ids job.points)
                  (mark_conditions job.table job.ids job.marks ++ point_conditions job.table job.ids job.points)
                  (later_read job.table job.ids (job_corners f bytes ∙ four) job.marks job.points),
            ),
          ),
        ),
      )

-- ---- the run

module _ (f : Form) (bytes : List ℕ) (lent : Lent) where
  module _ (four : f.corners ≡ 4) where
    -- code 1 + i is given at a place exactly if condition i holds there and none before it holds anywhere
    pub code_exactly : (i place : ℕ) → i < codes → (((run f bytes lent).code ≡ 1 + i) × ((run f bytes lent).place ≡ place)) ↔ FirstOf (job_conditions f bytes lent) i place
    unfolding verdict_on job_tests layout_tests room_tests table_tests mark_tests point_tests
    code_exactly i place l =
        let (forth, back) = first_reads 1 (zero-lt-suc 0) (job_tests f bytes lent) (job_conditions f bytes lent) (codes_read f bytes lent four) i place l in (
          λ (e, g). forth (verdict_is (sym (run_code f bytes lent) ∙ e) (sym (run_place f bytes lent) ∙ g)),
          λ x. (run_code f bytes lent ∙ ap (λ (v : Verdict). v.code) (back x), run_place f bytes lent ∙ ap (λ (v : Verdict). v.place) (back x)),
        )
      where
        verdict_is : {v : Verdict} {code place : ℕ} → v.code ≡ code → v.place ≡ place → v ≡ record { code = code; place = place }
        verdict_is e g = λ k. record { code = e k; place = g k }

    -- code 0 exactly if no condition holds
    pub accepted_exactly : ((run f bytes lent).code ≡ 0) ↔ ((i place : ℕ) → condition_at (job_conditions f bytes lent) i place → ⊥)
    unfolding verdict_on
    accepted_exactly =
        let (forth, back) = none_reads 1 (zero-lt-suc 0) (job_tests f bytes lent) (job_conditions f bytes lent) (codes_read f bytes lent four) in
        (λ e. forth (sym (run_code f bytes lent) ∙ e), λ off. run_code f bytes lent ∙ back off)

  room_passes : (RoomShort f (header_of bytes) lent → ⊥) → (first_match 4 (room_tests f (header_of bytes) lent)).code ≡ 0
  unfolding room_tests first_match given found
  room_passes room = rw (is_false (room_short f (header_of bytes) lent) (λ e. room ((room_reads f (header_of bytes) lent).0 e)))

  -- a file that is laid out and reads as a header and a job, with room enough and sections that pass, is run
  pub run_as : (h : Header) (job : Job) → header_of bytes ≡ h → job_of f bytes ≡ job → (first_match 1 (layout_tests f bytes)).code ≡ 0 → (RoomShort f h lent → ⊥)
      → (first_match 5 (section_tests job)).code ≡ 0 → run f bytes lent ≡ accepted job lent
  unfolding verdict_on job_tests layout_tests room_tests
  run_as h job header is laid room sections =
      run_accepted f bytes lent (match_both 1 (zero-lt-suc 0) (layout_tests f bytes) _ laid
      (match_both 4 (zero-lt-suc 3) (room_tests f (header_of bytes) lent) _ (room_passes (rw header room)) (rw is sections)))
      ∙ ap (λ (j : Job). accepted j lent) is

  -- ---- what an accepted job keeps

  module _ (ran : (run f bytes lent).code ≡ 0) where
    -- no lent room is short
    pub accepted_room : RoomShort f (header_of bytes) lent → ⊥
    unfolding room_tests
    accepted_room short =
        let (n4, _) = match_zero 4 (zero-lt-suc 3) _ _ (match_parts 4 (zero-lt-suc 3) (room_tests f (header_of bytes) lent) _ (later_passed f bytes lent ran)).0 in
        not_both ((room_reads f (header_of bytes) lent).1 short) (given_none _ n4)

    pub accepted_closed : Closed (job_of f bytes).table (job_of f bytes).ids
    accepted_closed =
        (closed_reads (job_of f bytes).table (job_of f bytes).ids 5 (zero-lt-suc 4)).0 (match_parts 5 (zero-lt-suc 4) (table_tests (job_of f bytes).table (job_of f bytes).ids) _ (sections_passed f bytes lent ran)).0

    -- the outer rows are alike
    pub accepted_outer : OuterAlike (job_of f bytes).table (job_of f bytes).marks
    unfolding mark_tests
    accepted_outer =
        let t = (job_of f bytes).table in
        let marks = (job_of f bytes).marks in
        let (_, e11) = match_zero 10 (zero-lt-suc 9) _ _ (marks_passed f bytes lent ran) in
        let (n11, _) = match_zero 11 (zero-lt-suc 10) _ _ e11 in
        (alike_exactly t marks).0 (λ r l x. not_both ((unlike_reads t marks r l).1 x) (lowest_none t.rows (unlike t marks) n11 r l))

    -- the header is within its limits and laid out as it says
    pub accepted_header : WithinLimits f (header_of bytes) × LaidOut f (header_of bytes) bytes
    accepted_header =
        let (limits, laid) = laid_passed f bytes (layout_passed f bytes lent ran) in
        ((limits_read f (header_of bytes)).0 limits, (laid_out_reads f (header_of bytes) bytes).0 laid)

    -- one mark for each row
    pub accepted_length : length (job_of f bytes).marks ≡ (job_of f bytes).table.rows
    unfolding job_of rows_table table_of
    accepted_length =
        let h = header_of bytes in
        let (_, laid) = accepted_header in
        length-take-le h.rows (drop (marks_at f h) bytes) (rw (length-drop (marks_at f h) bytes) (omega (arith, laid.1, laid.0.0.1)))
