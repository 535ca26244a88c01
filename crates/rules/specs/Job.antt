-- The job file, its codes, the lent buffers, and the run.
use Rattle.std.specs.Prelude.{ℕ, ◌+◌, ◌-◌, ◌*◌, ◌/◌, Bool, not, ◌&&◌, ◌||◌, cond, eqb, leb, ltb, length, get_or, take, drop, replicate}
use mathlib.Core.List.{List, [], ◌∷◌, ◌++◌, flatten}
use Rattle.std.proofs.Math.Option
use Rattle.std.proofs.Math.Option.{Option, some, none}
use Rattle.rules.specs.Below.{lowest, tabulate}
use Rattle.rules.specs.Words.{word}
use Rattle.rules.specs.Table.{Table, table_of, rising, ids_below, before, outer, triangles_shared, edges_joined, vertices_joined}
use Rattle.rules.specs.Skin.{ringless, clean, skin_as, skin}
use Rattle.rules.specs.Points.{Point, point_in}
use Rattle.rules.specs.Outward.{off_grid, flat, folded, triangle_as}
use Rattle.rules.specs.First.{Test, given, Verdict, first_match}
use Rattle.rules.specs.Proposals as P
use Rattle.rules.specs.Proposals.{Proposal, inside_in, answers_to, taken}
use Rattle.rules.specs.Work.{work_area}

-- ---- the file: a header of counts and offsets

-- How a job's bytes are laid out: the corners of a row, the bytes of an id, and what word 7 is where there are no points.
pub record Form : Type 0 where
  pub corners : ℕ
  pub width : ℕ
  pub mode : ℕ

abbrev pub track : Form
track = record { corners = 4; width = 4; mode = 0 }

-- V, N, P and word 7
pub record Header : Type 0 where
  pub ids : ℕ
  pub rows : ℕ
  pub proposals : ℕ
  pub mode : ℕ

abbrev pub header_word : List ℕ → ℕ → ℕ
header_word bytes i = word 4 bytes (4 * i)

unfoldable pub header_of : List ℕ → Header
header_of bytes = record { ids = header_word bytes 0; rows = header_word bytes 1; proposals = header_word bytes 2; mode = header_word bytes 7 }

abbrev pub most_ids : ℕ
most_ids = 1024

abbrev pub most_rows : ℕ
most_rows = 2048

abbrev pub most_proposals : ℕ
most_proposals = 1024

-- the least V and N
abbrev pub least : Form → ℕ
least f = f.corners + 1

abbrev pub within : ℕ → ℕ → ℕ → Bool
within low n high = leb low n && leb n high

unfoldable pub within_limits : Form → Header → Bool
within_limits f h = within (least f) h.ids most_ids && within (least f) h.rows most_rows && within 0 h.proposals most_proposals

abbrev pub row_bytes : Form → ℕ
row_bytes f = f.corners * f.width

-- the offsets of rows, marks and proposals, and where these end: for a track 32, 32 + 16N, 32 + 17N and 32 + 17N + 8P
abbrev pub rows_at : ℕ
rows_at = 32

abbrev pub marks_at : Form → Header → ℕ
marks_at f h = rows_at + row_bytes f * h.rows

abbrev pub proposals_at : Form → Header → ℕ
proposals_at f h = marks_at f h + h.rows

abbrev pub points_at : Form → Header → ℕ
points_at f h = proposals_at f h + 8 * h.proposals

-- word 7 says that V points stand behind the proposals, and how the skin is to be listed: for a track it is then 1, outward, or 3, rising
unfoldable pub has_points : Form → Header → Bool
has_points f h = eqb h.mode (f.mode + 1) || eqb h.mode (f.mode + 3)

unfoldable pub asks_outward : Form → Header → Bool
asks_outward f h = eqb h.mode (f.mode + 1)

-- three i16 each
unfoldable pub point_bytes : Form → Header → ℕ
point_bytes f h = cond (has_points f h) (6 * h.ids) 0

abbrev pub whole_length : Form → Header → ℕ
whole_length f h = points_at f h + point_bytes f h

-- words 3 to 7 are as the table of the header says, and word 6 is the length lent
unfoldable pub laid_out : Form → Header → List ℕ → Bool
laid_out f h bytes =
    eqb (header_word bytes 3) rows_at && eqb (header_word bytes 4) (marks_at f h) && eqb (header_word bytes 5) (proposals_at f h)
    && eqb (header_word bytes 6) (whole_length f h) && (eqb h.mode f.mode || has_points f h) && eqb (header_word bytes 6) (length bytes)

-- ---- what the sections hold

abbrev pub section : List ℕ → ℕ → ℕ → List ℕ
section bytes start size = take size (drop start bytes)

-- the ids that the bytes of so many rows stand for, row after row
abbrev pub ids_in : Form → ℕ → List ℕ → List ℕ
ids_in f n bytes = tabulate (f.corners * n) (λ k. word f.width bytes (f.width * k))

unfoldable pub rows_table : Form → ℕ → List ℕ → Table
rows_table f n bytes = table_of f.corners n (ids_in f n bytes)

unfoldable pub proposal_in : List ℕ → ℕ → Proposal
proposal_in bytes k = record { row = word 4 bytes (8 * k); kind = word 4 bytes (8 * k + 4) }

-- the point of each id, by the bytes of the points, where there are points
unfoldable pub points_of : Form → Header → List ℕ → Option (ℕ → Point)
points_of f h bytes = cond (has_points f h) (some (point_in bytes)) none

-- V, the rows, the starting marks, the proposals, the points, and whether the skin is to be listed outward
pub record Job : Type 0 where
  pub ids : ℕ
  pub table : Table
  pub marks : List ℕ
  pub proposals : List Proposal
  pub points : Option (ℕ → Point)
  pub outward : Bool

-- the job that bytes hold, by a header, and by their own
abbrev pub job_by : Form → Header → List ℕ → Job
job_by f h bytes = record {
  ids = h.ids;
  table = rows_table f h.rows (section bytes rows_at (row_bytes f * h.rows));
  marks = section bytes (marks_at f h) h.rows;
  proposals = tabulate h.proposals (proposal_in (section bytes (proposals_at f h) (8 * h.proposals)));
  points = points_of f h (section bytes (points_at f h) (point_bytes f h));
  outward = asks_outward f h;
}

unfoldable pub job_of : Form → List ℕ → Job
job_of f bytes = job_by f (header_of bytes) bytes

-- ---- a job's answers, marks and skins

abbrev pub answers_of : Job → List ℕ
answers_of job = answers_to job.table job.marks job.proposals

-- the marks that stand after its first k proposals, and after the last
abbrev pub standing : Job → ℕ → List ℕ
standing job k = P.final_marks job.table job.marks (take k job.proposals)

abbrev pub final_of : Job → List ℕ
final_of job = P.final_marks job.table job.marks job.proposals

-- the skin of such marks, that it is clean, and the skin in either order: rising, or outward where there are points
abbrev pub skin_with : Job → List ℕ → List (List ℕ)
skin_with job marks = skin job.table (inside_in marks)

abbrev pub listed_with : Bool → Job → List ℕ → List (List ℕ)
listed_with outward job marks = skin_as job.table (inside_in marks) (triangle_as job.table outward job.points)

abbrev pub clean_with : Job → List ℕ → Bool
clean_with job marks = clean job.table (inside_in marks) job.ids

-- the work area for such marks
abbrev pub work_with : Job → List ℕ → List ℕ
work_with job marks = work_area job.table job.ids marks

-- the skin after the last proposal in the order asked for
abbrev pub listed_of : Job → List (List ℕ)
listed_of job = listed_with job.outward job (final_of job)

-- ---- the lent buffers

pub record Lent : Type 0 where
  pub answers : List ℕ
  pub final_marks : List ℕ
  pub triangles : List ℕ
  pub work : List ℕ

-- a neighbour for each corner of a row, and two tallies for each id
abbrev pub work_room : Form → Header → ℕ
work_room f h = f.corners * h.rows + 2 * h.ids

-- the skin list: at most half of the triangles of all rows, an id for each of a triangle's corners
abbrev pub list_room : Form → Header → ℕ
list_room f h = f.corners * (f.corners - 1) / 2 * h.rows

-- rooms of these lengths for answers, final marks, triangles and work are short
unfoldable pub short_rooms : Form → Header → ℕ → ℕ → ℕ → ℕ → Bool
short_rooms f h answers final_marks triangles work =
    ltb answers h.proposals || ltb final_marks h.rows || ltb triangles (list_room f h) || ltb work (work_room f h)

unfoldable pub room_short : Form → Header → Lent → Bool
room_short f h lent = short_rooms f h (length lent.answers) (length lent.final_marks) (length lent.triangles) (length lent.work)

-- a buffer with these at its front, and all after them unchanged
unfoldable pub written {ℓ} : {A : Type ℓ} → List A → List A → List A
written xs buffer = xs ++ drop (length xs) buffer

-- ---- job codes: first match decides

-- how many codes there are
abbrev pub codes : ℕ
codes = 15

unfoldable pub layout_tests : Form → List ℕ → List Test
layout_tests f bytes =
    -- 1: under 32 bytes
    (λ _. given (ltb (length bytes) rows_at))
    -- 2: V, N or P outside its limits
    ∷ (λ _. given (not (within_limits f (header_of bytes))))
    -- 3: a word 3 to 7 differs from the table, or word 6 from the length lent
    ∷ (λ _. given (not (laid_out f (header_of bytes) bytes)))
    ∷ []

unfoldable pub room_tests : Form → Header → Lent → List Test
room_tests f h lent =
    -- 4: lent room short
    (λ _. given (room_short f h lent))
    ∷ []

-- a row whose ids do not rise strictly, or are not all below V
abbrev pub bad_row : Table → ℕ → ℕ → Bool
bad_row t id_count r = not (rising t r && ids_below t id_count r)

-- a row that is not after the one before it
abbrev pub not_after : Table → ℕ → Bool
not_after t r = ltb 0 r && not (before t (r - 1) r)

unfoldable pub table_tests : Table → ℕ → List Test
table_tests t id_count =
    -- 5: a row's ids not strictly rising, or an id not below V
    (λ _. lowest t.rows (bad_row t id_count))
    -- 6: a row not after the one before it
    ∷ (λ _. lowest t.rows (not_after t))
    -- 7, 8, 9: triangle rule, edge rule, vertex rule broken
    ∷ (λ _. lowest t.rows (λ r. not (triangles_shared t r)))
    ∷ (λ _. lowest t.rows (λ r. not (edges_joined t r)))
    ∷ (λ _. lowest t.rows (λ r. not (vertices_joined t r)))
    ∷ []

-- the lowest outer row, or 0 where there is none
abbrev pub lowest_outer : Table → ℕ
lowest_outer t = Option.get_or (lowest t.rows (outer t)) 0

-- an outer row whose mark differs from that of the lowest outer row
unfoldable pub unlike : Table → List ℕ → ℕ → Bool
unlike t marks r = outer t r && not (eqb (get_or marks r 0) (get_or marks (lowest_outer t) 0))

unfoldable pub mark_tests : Table → ℕ → List ℕ → List Test
mark_tests t id_count marks =
    -- 10: a mark that is not 0 or 1
    (λ _. lowest t.rows (λ r. not (eqb (get_or marks r 0) 0 || eqb (get_or marks r 0) 1)))
    -- 11: outer rows with unlike marks
    ∷ (λ _. lowest t.rows (unlike t marks))
    -- 12: starting skin not clean
    ∷ (λ _. lowest id_count (ringless t (inside_in marks) id_count))
    ∷ []

-- the place that points show, where there are points
unfoldable pub shown : Option (ℕ → Point) → ((ℕ → Point) → Option ℕ) → Option ℕ
shown none look = none
shown (some at) look = look at

unfoldable pub point_tests : Table → ℕ → Option (ℕ → Point) → List Test
point_tests t id_count points =
    -- 13: a point out of range, or id 0 not zero
    (λ _. shown points (λ at. lowest id_count (off_grid at)))
    -- 14: a finite row of zero volume
    ∷ (λ _. shown points (λ at. lowest t.rows (flat t at)))
    -- 15: two finite neighbours on the same side of their triangle
    ∷ (λ _. shown points (λ at. lowest t.rows (folded t at)))
    ∷ []

-- what the sections hold: codes 5 to 15
abbrev pub section_tests : Job → List Test
section_tests job =
    table_tests job.table job.ids ++ (mark_tests job.table job.ids job.marks ++ point_tests job.table job.ids job.points)

unfoldable pub job_tests : Form → List ℕ → Lent → List Test
job_tests f bytes lent = layout_tests f bytes ++ (room_tests f (header_of bytes) lent ++ section_tests (job_of f bytes))

-- ---- the run

pub record Result : Type 0 where
  pub code : ℕ
  pub place : ℕ
  pub taken : ℕ
  pub triangles : ℕ
  -- the four buffers as left
  pub left : Lent

-- Code 0: P answers, N marks, the skin in the order asked for and the work area for these marks at the front of their buffers.
unfoldable pub accepted : Job → Lent → Result
accepted job lent =
    let answers = answers_of job in
    let final = final_of job in
    let skin_list = listed_of job in
    record {
      code = 0;
      place = 0;
      taken = taken answers;
      triangles = length skin_list;
      left = record {
        answers = written answers lent.answers;
        final_marks = written final lent.final_marks;
        triangles = written (flatten skin_list) lent.triangles;
        work = written (work_with job final) lent.work;
      };
    }

-- A refusal changes nothing in answers, final marks and triangles. Codes 1 to 4 don't touch work; codes 5 to 15 leave zero in its front.
unfoldable pub refused : Form → Header → Verdict → Lent → Result
refused f h v lent = record {
  code = v.code;
  place = v.place;
  taken = 0;
  triangles = 0;
  left = record {
    answers = lent.answers;
    final_marks = lent.final_marks;
    triangles = lent.triangles;
    work = cond (leb v.code 4) lent.work (written (replicate (work_room f h) 0) lent.work);
  };
}

unfoldable pub verdict_on : Form → List ℕ → Lent → Verdict
verdict_on f bytes lent = first_match 1 (job_tests f bytes lent)

unfoldable pub run : Form → List ℕ → Lent → Result
run f bytes lent =
    let v = verdict_on f bytes lent in
    cond (eqb v.code 0) (accepted (job_of f bytes) lent) (refused f (header_of bytes) v lent)
