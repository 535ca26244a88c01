-- The run in stages: header and room, table, marks, points, proposals. Each says what is still to be decided when it begins.
use Rattle.std.specs.Prelude.{◌≡◌, refl, ◌≢◌, Bool, true, false, ◌||◌, cond, ℕ, ◌*◌, ◌/◌, ◌≤◌, eqb, leb, length, take, replicate}
use Rattle.std.proofs.Common.{sym, ◌∙◌, subst, ⊎_elim, le_refl, arith, lit<, lit≤}
use Rattle.std.proofs.Math.Path.{ap, ap₂}
use Rattle.std.proofs.Math.Option.{Option, some, none}
use mathlib.Core.List.{List, ◌++◌, flatten}
use Rattle.std.proofs.Math.ListN.{drop}
use Rattle.std.proofs.lemmas.List.{length-replicate}
use Rattle.std.proofs.Math.Seq.{take-append_seam, drop-append_seam}
use borrow.Author.Tests.{ne_eqb, lt-leb}
use Rattle.rules.specs.Table.{Table, neighbour_list}
use Rattle.rules.specs.First.{Test, Verdict, first_match}
use Rattle.rules.specs.Skin.{skin_as}
use Rattle.rules.specs.Points.{Point, point_in}
use Rattle.rules.specs.Outward.{triangle_as}
use Rattle.rules.specs.Proposals.{Proposal, inside_in, answers_to, final_marks, taken}
use Rattle.rules.specs.Work.{work_area}
use Rattle.rules.specs.Job as rules
use Rattle.rules.specs.Job.{track, header_of, most_ids, most_rows, most_proposals, has_points, asks_outward, point_bytes, whole_length, points_of, Job, job_of, final_of, work_with, Lent, work_room, list_room, written, mark_tests, shown, point_tests, section_tests, Result, accepted, refused, verdict_on, run}
use Rattle.rules.specs.Laws.Truth.{same_or_not}
use Rattle.rules.specs.Laws.Proposals.{final_length}
use Rattle.rules.specs.Laws.First.{match_code, match_zero, match_append, match_front, match_parts}
use Rattle.rules.specs.Laws.Written.{written_length, written_whole, written_front}
use Rattle.rules.specs.Reading.Closed.{Closed}
use Rattle.rules.specs.Reading.Work.{work_length}
use Rattle.job.specs.declared.Header.{Header}
use Rattle.job.specs.Reading.{meant, header}
use Rattle.table.specs.Rows.{table_in, rows_in}
use Rattle.table.specs.Ground.{Ground}
use Rattle.rings.specs.Far.{Marked}
use Rattle.points.specs.Grid.{Grid, none_off}
use Rattle.tallies.specs.Area.{Area, area_ground}
use Rattle.growth.specs.Answers.{proposals_in}
use Rattle.track.specs.Outcomes.{lent, result_of, refusal}

-- the verdict decides: accepted, or refused
unfoldable pub decided : rules.Header → Verdict → Job → Lent → Result
decided h v job lent = cond (eqb v.code 0) (accepted job lent) (refused track h v lent)

pub run_decided : (bytes : List ℕ) (lent : Lent) → decided (header_of bytes) (verdict_on track bytes lent) (job_of track bytes) lent ≡ run track bytes lent
unfolding run decided
run_decided bytes lent = refl

-- the job of a header and of the bytes of its sections
abbrev pub job_in : Header → List ℕ → List ℕ → List ℕ → List ℕ → Job
job_in h rows marks proposals points = record {
  ids = h.ids;
  table = table_in rows;
  marks = marks;
  proposals = proposals_in proposals;
  points = points_of track (meant h) points;
  outward = asks_outward track (meant h);
}

-- the tests of marks and points: codes 10 to 15
abbrev pub later_tests : Table → ℕ → List ℕ → Option (ℕ → Point) → List Test
later_tests t ids marks points = mark_tests t ids marks ++ point_tests t ids points

-- what is still to be decided of a job when its table is looked at, and when its marks are
abbrev pub from_table : Header → Job → Lent → Result
from_table h job = decided (meant h) (first_match 5 (section_tests job)) job

abbrev pub from_marks : Header → Job → Lent → Result
from_marks h job = decided (meant h) (first_match 10 (later_tests job.table job.ids job.marks job.points)) job

-- ---- what each stage may rest on

-- a closed table whose neighbour list stands at the front of work, as much work as is needed, a mark for each row, points if the header says
-- so, and room for what a run leaves
pub record Ready (h : Header) (rows marks proposals points : List ℕ) (buffers : Lent) : Type 0 where
  pub few_ids : h.ids ≤ most_ids
  pub closed : Closed (table_in rows) h.ids
  pub ground : Ground rows buffers.work h.ids
  pub each : length marks ≡ rows_in rows
  pub points_long : length points ≡ point_bytes track (meant h)
  pub listed : buffers.work ≡ written (neighbour_list (table_in rows)) buffers.work
  pub counted : rows_in rows ≡ h.rows
  pub work_room_lem : length buffers.work ≡ work_room track (meant h)
  pub answer_room : length proposals / 8 ≤ length buffers.answers
  pub mark_room : rows_in rows ≤ length buffers.final_marks
  pub triangle_room : 6 * rows_in rows ≤ length buffers.triangles

pub the_marks : {h : Header} {rows marks proposals points : List ℕ} {buffers : Lent} → Ready h rows marks proposals points buffers → Marked rows buffers.work marks h.ids
the_marks s = record { ground = s.ground; closed = s.closed; few = s.few_ids; each = s.each }

-- where there are points, each is in range
abbrev pub OnGrid : Header → List ℕ → Type 0
OnGrid h points = has_points track (meant h) ≡ true → Grid points h.ids

-- a job that is laid out, rooms that are not short, and as much work as is needed
pub record Laid (h : Header) (job : List ℕ) (buffers : Lent) : Type 0 where
  pub is : h ≡ header job
  pub few_ids : h.ids ≤ most_ids
  pub few : h.rows ≤ most_rows
  pub few_proposals : h.proposals ≤ most_proposals
  pub long : length job ≡ whole_length track (meant h)
  pub answer_room : h.proposals ≤ length buffers.answers
  pub mark_room : h.rows ≤ length buffers.final_marks
  pub triangle_room : list_room track (meant h) ≤ length buffers.triangles
  pub work_room_lem : length buffers.work ≡ work_room track (meant h)

-- ---- the verdict on marks and points

pub late : (code : ℕ) → 5 ≤ code → (tests : List Test) → (first_match code tests).code ≢ 0 → leb (first_match code tests).code 4 ≡ false
late code l tests ne = ⊎_elim (λ z. absurd (ne z)) (λ m. lt-leb (first_match code tests).code 4 (omega arith)) (match_code code tests)

-- zeros in all of the work that is needed
pub all_zero : (h : Header) (work : List ℕ) → length work ≡ work_room track (meant h) → written (replicate (work_room track (meant h)) 0) work ≡ replicate (length work) 0
all_zero h work e = rw (← e) (written_whole (replicate (length work) 0) work (rw (length-replicate {A = ℕ} (length work) 0) (le_refl (length work))))

module _ (h : Header) (job : Job) (buffers : Lent) {v : Verdict} (told : v ≡ first_match 10 (later_tests job.table job.ids job.marks job.points)) where
  abbrev tests : List Test
  tests = later_tests job.table job.ids job.marks job.points

  pub marks_refused : length buffers.work ≡ work_room track (meant h) → {work : List ℕ} → v.code ≢ 0 → work ≡ replicate (length buffers.work) 0
      → result_of (refusal v) (lent buffers.answers buffers.final_marks buffers.triangles work) ≡ from_marks h job buffers
  unfolding decided refused
  marks_refused room ne ew =
      let off : (first_match 10 tests).code ≢ 0 = λ z. ne (ap (λ (w : Verdict). w.code) told ∙ z) in
      rw (told, ne_eqb (first_match 10 tests).code 0 off, late 10 (lit≤ tt) tests off, all_zero h buffers.work room, ew)

  pub marks_accepted : v.code ≡ 0 → {r : Result} → r ≡ accepted job buffers → r ≡ from_marks h job buffers
  unfolding decided
  marks_accepted z e = rw (ap (λ (w : Verdict). w.code) (sym told) ∙ z) e

-- ---- the points

-- what is found of the points, where there are any
module _ (h : Header) (t : Table) (points : List ℕ) where
  pub points_room : has_points track (meant h) ≡ true → length points ≡ point_bytes track (meant h) → 6 * h.ids ≤ length points
  unfolding point_bytes
  points_room on long = rw (long, on) (le_refl (6 * h.ids))

  pub with_points : has_points track (meant h) ≡ true → {v : Verdict} → v ≡ first_match 13 (point_tests t h.ids (some (point_in points)))
      → v ≡ first_match 13 (point_tests t h.ids (points_of track (meant h) points))
  unfolding points_of
  with_points on e = rw on e

  pub without_points : has_points track (meant h) ≡ false → first_match 13 (point_tests t h.ids (points_of track (meant h) points)) ≡ record { code = 0; place = 0 }
  unfolding points_of point_tests shown first_match
  without_points off = rw off

-- the verdict on the marks and then on the points
module _ (h : Header) (t : Table) (marks points : List ℕ) {v : Verdict} (is : v ≡ first_match 10 (mark_tests t h.ids marks)) where
  code_is : v.code ≡ (first_match 10 (mark_tests t h.ids marks)).code
  code_is = ap (λ (w : Verdict). w.code) is

  pub by_marks : v.code ≢ 0 → v ≡ first_match 10 (later_tests t h.ids marks (points_of track (meant h) points))
  by_marks ne = is ∙ sym (match_front 10 (mark_tests t h.ids marks) _ (λ z. ne (code_is ∙ z)))

  pub by_points : v.code ≡ 0 → {p : Verdict} → p ≡ first_match 13 (point_tests t h.ids (points_of track (meant h) points))
      → p ≡ first_match 10 (later_tests t h.ids marks (points_of track (meant h) points))
  unfolding mark_tests
  by_points z e = e ∙ sym (match_append 10 (lit< tt) (mark_tests t h.ids marks) _ (sym code_is ∙ z))

-- where none of the codes 10 to 15 is given, each point is in range
pub on_grid_lem : (h : Header) (t : Table) (marks : List ℕ) {points : List ℕ} → h.ids ≤ most_ids → length points ≡ point_bytes track (meant h)
    → (first_match 10 (later_tests t h.ids marks (points_of track (meant h) points))).code ≡ 0 → OnGrid h points
unfolding mark_tests point_tests points_of shown
on_grid_lem h t marks {points} few long e on =
    let passed = (match_parts 10 (lit< tt) (mark_tests t h.ids marks) _ e).1 in
    none_off (match_zero 13 (lit< tt) _ _ (rw on at passed)).0 few (points_room h t points on long)

-- the order of a triangle that is asked for: outward only where there are points, and for rising no point is read
asked_order : (h : Header) (t : Table) (points : List ℕ)
    → triangle_as t (asks_outward track (meant h)) (some (point_in points)) ≡ triangle_as t (asks_outward track (meant h)) (points_of track (meant h) points)
unfolding triangle_as points_of asks_outward has_points
asked_order h t points = go (eqb h.mode 1) (eqb h.mode 3)
  where
    go : (one three : Bool) → triangle_as t one (some (point_in points)) ≡ triangle_as t one (cond (one || three) (some (point_in points)) none)
    go true three = refl
    go false true = refl
    go false false = refl

-- the skin of the front of the final marks, in the order asked for
abbrev pub front_skin : Header → List ℕ → List ℕ → List ℕ → List (List ℕ)
front_skin h rows points final =
    skin_as (table_in rows) (inside_in (take (rows_in rows) final)) (triangle_as (table_in rows) (asks_outward track (meant h)) (points_of track (meant h) points))

pub front_listed : (h : Header) (rows points final triangles₀ : List ℕ) {n count : ℕ} {asked : Bool} {triangles : List ℕ} → n ≡ rows_in rows → asked ≡ asks_outward track (meant h)
    → (count ≡ length (skin_as (table_in rows) (inside_in (take n final)) (triangle_as (table_in rows) asked (some (point_in points)))))
    × (triangles ≡ written (flatten (skin_as (table_in rows) (inside_in (take n final)) (triangle_as (table_in rows) asked (some (point_in points))))) triangles₀)
    → (count ≡ length (front_skin h rows points final)) × (triangles ≡ written (flatten (front_skin h rows points final)) triangles₀)
front_listed h rows points final triangles₀ en ea e = rw (en, ea, asked_order h (table_in rows) points) at e

-- ---- the work that is needed, lent by itself

-- what is left in the front, and the rest as it was
abbrev pub with_rest : List ℕ → Result → Result
with_rest rest r = record {
  code = r.code;
  place = r.place;
  taken = r.taken;
  triangles = r.triangles;
  left = lent r.left.answers r.left.final_marks r.left.triangles (r.left.work ++ rest);
}

pub front_decides : (h : Header) (tests : List Test) (code : ℕ) → 5 ≤ code → (job : Job) → length (work_with job (final_of job)) ≤ work_room track (meant h)
    → (answers final triangles work : List ℕ) → work_room track (meant h) ≤ length work
    → with_rest (drop (work_room track (meant h)) work) (decided (meant h) (first_match code tests) job (lent answers final triangles (take (work_room track (meant h)) work)))
    ≡ decided (meant h) (first_match code tests) job (lent answers final triangles work)
unfolding decided accepted refused
front_decides h tests code l job fits answers final triangles work room =
    ⊎_elim (λ (z : (first_match code tests).code ≡ 0). rw (z, written_front (work_with job (final_of job)) work (work_room track (meant h)) fits room))
    (λ (ne : (first_match code tests).code ≡ 0 → ⊥).
    rw (ne_eqb (first_match code tests).code 0 ne, late code l tests ne, written_front zeros work (work_room track (meant h)) (rw full (le_refl (work_room track (meant h)))) room))
    (same_or_not (first_match code tests).code 0)
  where
    zeros : List ℕ
    zeros = replicate (work_room track (meant h)) 0

    full : length zeros ≡ work_room track (meant h)
    full = length-replicate {A = ℕ} (work_room track (meant h)) 0

-- ---- the front of the final marks, lent by itself

front_written : (xs d : List ℕ) {n : ℕ} → n ≡ length xs → take n (written xs d) ≡ xs
unfolding written
front_written xs d e = rw e (take-append_seam xs (drop (length xs) d))

-- growing may rest on it
pub front_area : {rows work marks : List ℕ} {ids : ℕ} → Area rows work marks ids → (final₀ : List ℕ) {whole : List ℕ} → whole ≡ written marks final₀ → Area rows work (take (length marks) whole) ids
front_area {rows} {work} {marks} {ids} a final₀ copied = subst (λ (m : List ℕ). Area rows work m ids) (sym (rw copied (front_written marks final₀ refl))) a

module _ (t : Table) (marks final₀ : List ℕ) (ps : List Proposal) {whole : List ℕ} (copied : whole ≡ written marks final₀) where
  front_is : take (length marks) whole ≡ marks
  front_is = rw copied (front_written marks final₀ refl)

  -- the answers to proposals on the marks that were copied there, and what is left in the whole
  pub answered : (answers₀ : List ℕ) {r : ℕ} {answers left : List ℕ} → r ≡ taken (answers_to t (take (length marks) whole) ps)
      → answers ≡ written (answers_to t (take (length marks) whole) ps) answers₀ → left ≡ final_marks t (take (length marks) whole) ps
      → (ids : ℕ) {work : List ℕ} → work ≡ work_area t ids left
      → (r ≡ taken (answers_to t marks ps)) × (answers ≡ written (answers_to t marks ps) answers₀) × (left ++ drop (length marks) whole ≡ written (final_marks t marks ps) final₀)
      × (work ≡ work_area t ids (final_marks t marks ps))
  unfolding written
  answered answers₀ {left = left} er ea el ids ew = (
    er ∙ ap (λ (m : List ℕ). taken (answers_to t m ps)) front_is,
    ea ∙ ap (λ (m : List ℕ). written (answers_to t m ps) answers₀) front_is,
    ap₂ (λ (x y : List ℕ). x ++ y) left_is (ap (drop (length marks)) copied ∙ drop-append_seam marks (drop (length marks) final₀))
        ∙ ap (λ (n : ℕ). final_marks t marks ps ++ drop n final₀) (sym (final_length t marks ps)),
    ew ∙ ap (work_area t ids) left_is,
  )
    where
      left_is : left ≡ final_marks t marks ps
      left_is = el ∙ ap (λ (m : List ℕ). final_marks t m ps) front_is

pub final_room : {h : Header} {rows marks proposals points : List ℕ} {buffers : Lent} → Ready h rows marks proposals points buffers → {final : List ℕ}
    → final ≡ written (final_marks (table_in rows) marks (proposals_in proposals)) buffers.final_marks → rows_in rows ≤ length final
final_room {rows = rows} {marks = marks} {proposals = proposals} {buffers = buffers} g e =
    rw (e, written_length (final_marks (table_in rows) marks (proposals_in proposals)) buffers.final_marks (rw (final_length (table_in rows) marks (proposals_in proposals), g.each) g.mark_room)) g.mark_room

-- the work area that is needed, and no more
area_whole : {h : Header} {rows marks proposals points : List ℕ} {buffers : Lent} → Ready h rows marks proposals points buffers → (final : List ℕ)
    → written (work_area (table_in rows) h.ids final) buffers.work ≡ work_area (table_in rows) h.ids final
area_whole {h = h} {rows = rows} {buffers = buffers} g final =
    written_whole (work_area (table_in rows) h.ids final) buffers.work (omega (arith, work_length (table_in rows) h.ids final, g.counted, g.work_room_lem))

-- the neighbour list when growing is done
module _ {h : Header} {rows marks proposals points : List ℕ} {buffers : Lent} (g : Ready h rows marks proposals points buffers) where
  pub grown_ground : {work : List ℕ} → work ≡ work_area (table_in rows) h.ids (final_marks (table_in rows) marks (proposals_in proposals)) → Ground rows work h.ids
  grown_ground e = area_ground (record { few = g.ground.few; closed = g.closed; each = final_length (table_in rows) marks (proposals_in proposals) ∙ g.each; area = e })

-- what an accepted job leaves, once its marks are answered and its skin is listed
pub grown : {h : Header} {rows marks proposals points : List ℕ} {buffers : Lent} → Ready h rows marks proposals points buffers
    → {count taken_count : ℕ} {answers final triangles work : List ℕ}
    → (taken_count ≡ taken (answers_to (table_in rows) marks (proposals_in proposals))) × (answers ≡ written (answers_to (table_in rows) marks (proposals_in proposals)) buffers.answers)
    × (final ≡ written (final_marks (table_in rows) marks (proposals_in proposals)) buffers.final_marks) × (work ≡ work_area (table_in rows) h.ids (final_marks (table_in rows) marks (proposals_in proposals)))
    → (count ≡ length (front_skin h rows points final)) × (triangles ≡ written (flatten (front_skin h rows points final)) buffers.triangles)
    → result_of (record { code = 0; place = 0; taken = taken_count; triangles = count }) (lent answers final triangles work) ≡ accepted (job_in h rows marks proposals points) buffers
unfolding accepted
grown {h = h} {rows = rows} {marks = marks} {proposals = proposals} {buffers = buffers} g {final = final} (et, ea, ef, ew) (ec, el) = rw (et, ea, ec, el, front, ef, ew, area_whole g ms)
  where
    ms : List ℕ
    ms = final_marks (table_in rows) marks (proposals_in proposals)

    front : take (rows_in rows) final ≡ ms
    front = ap (take (rows_in rows)) ef ∙ front_written ms buffers.final_marks (sym g.each ∙ sym (final_length (table_in rows) marks (proposals_in proposals)))
