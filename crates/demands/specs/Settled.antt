-- Where an answer is an option, or a result with an enum for its refusals, behind a definition that gives document 01's number and place: the
-- case that these stand for. That the definition tells its cases apart is what leaves one possible result.
use Rattle.std.specs.Prelude.{◌≡◌, refl, Bool, cond, List, ℕ, eqb, ℤ, Float, Option, Some, None, Result, Ok, Err}
use Rattle.std.proofs.Common.{sym, ap, ◌∙◌}
use Rattle.std.proofs.Math.Option as rules
use Rattle.rules.specs.Table.{Table}
use Rattle.rules.specs.First.{Verdict}
use Rattle.rules.specs.Job.{Lent}
use Rattle.rules.specs.Job as run
use Rattle.rules.specs.Stl.{Wrote, Read, Exported}
use Rattle.job.specs.declared.Header.{Header}
use Rattle.job.specs.declared.Refused.{Refused}
use Rattle.job.specs.declared.Refused.TheVariants as refused
use Rattle.job.specs.Reading as job
use Rattle.stl.specs.declared.writer.Refusal as stl_writer
use Rattle.stl.specs.declared.writer.Refusal.TheVariants as writing
use Rattle.stl.specs.Writing as stl_writing
use Rattle.stl.specs.declared.reader.Refusal as stl_reader
use Rattle.stl.specs.declared.reader.Refusal.TheVariants as file
use Rattle.stl.specs.Reading as stl_reading
use Rattle.values.specs.Places.{place_of}
use Rattle.table.specs.declared.Broken.{Broken}
use Rattle.table.specs.declared.Broken.TheVariants as broken
use Rattle.table.specs.Closed as closed
use Rattle.round.specs.declared.Stop.{Stop}
use Rattle.round.specs.Edge.{Turned, turned_once}
use Rattle.marks.specs.declared.Unfit.{Unfit}
use Rattle.marks.specs.declared.Unfit.TheVariants as unfit
use Rattle.marks.specs.Start as start
use Rattle.points.specs.declared.Misplaced.{Misplaced}
use Rattle.points.specs.declared.Misplaced.TheVariants as misplaced
use Rattle.points.specs.Placed as placed
use Rattle.track.specs.declared.refusal.Grown.{Grown}
use Rattle.track.specs.declared.refusal.Refusal.{Refusal}
use Rattle.track.specs.declared.refusal.Refusal.TheVariants as refusal
use Rattle.track.specs.Outcomes.{Outcome, outcome_of, result_of}
use Rattle.track_stl.specs.declared.unwritten.Unwritten.{Unwritten}
use Rattle.track_stl.specs.declared.unwritten.Unwritten.TheVariants as unwritten
use Rattle.track_stl.specs.Outcomes as skin
use Rattle.track_stl.specs.Ran.{told}

-- ---- `job::read`

unfoldable pub reading_at : Verdict → Header → Result Header Refused
reading_at v h = cond (eqb v.code 1) (Err refused.Short) (cond (eqb v.code 2) (Err refused.Limits) (cond (eqb v.code 3) (Err refused.Layout) (Ok h)))

pub reading_is : (r : Result Header Refused) {v : Verdict} {h : Header} → (job.verdict_of r ≡ v) × (job.header_in r h ≡ h) → r ≡ reading_at v h
unfolding reading_at
reading_is r {h = h} (e, held) = back r held ∙ ap (λ (v : Verdict). reading_at v h) e
  where
    back : (r : Result Header Refused) → job.header_in r h ≡ h → r ≡ reading_at (job.verdict_of r) h
    back (Err refused.Short) held = refl
    back (Err refused.Limits) held = refl
    back (Err refused.Layout) held = refl
    back (Ok g) held = ap (λ (k : Header). Ok k) held

-- ---- a search, as `rings::ringless_vertex`

unfoldable pub found_at : rules.Option ℕ → Option ℕ
found_at (rules.some place) = Some place
found_at rules.none = None

pub found_is : (a : Option ℕ) {place : rules.Option ℕ} → place_of a ≡ place → a ≡ found_at place
unfolding found_at
found_is (Some r) e = ap found_at e
found_is None e = ap found_at e

-- ---- `table::check`

unfoldable pub broken_at : Verdict → Result (Unit {0}) Broken
broken_at v =
    cond (eqb v.code 5) (Err (broken.Row v.place)) (cond (eqb v.code 6) (Err (broken.Order v.place)) (cond (eqb v.code 7) (Err (broken.Triangle v.place))
    (cond (eqb v.code 8) (Err (broken.Edge v.place)) (cond (eqb v.code 9) (Err (broken.Vertex v.place)) (Ok tt)))))

broken_is : (b : Result (Unit {0}) Broken) {v : Verdict} → closed.verdict_of b ≡ v → b ≡ broken_at v
unfolding broken_at
broken_is b e = sym (back b) ∙ ap broken_at e
  where
    back : (b : Result (Unit {0}) Broken) → broken_at (closed.verdict_of b) ≡ b
    back (Ok _) = refl
    back (Err (broken.Row r)) = refl
    back (Err (broken.Order r)) = refl
    back (Err (broken.Triangle r)) = refl
    back (Err (broken.Edge r)) = refl
    back (Err (broken.Vertex r)) = refl

-- with what is left in the work words
pub checked : (b : Result (Unit {0}) Broken) (work : List ℕ) {v : Verdict} {left : List ℕ} → (closed.verdict_of b ≡ v) × (left ≡ closed.left_of b work)
    → (b ≡ broken_at v) × (left ≡ closed.left_of (broken_at v) work)
checked b work (e, l) = (broken_is b e, l ∙ ap (λ (x : Result (Unit {0}) Broken). closed.left_of x work) (broken_is b e))

-- ---- `marks::check_marks`

unfoldable pub unfit_at : Verdict → Result (Unit {0}) Unfit
unfit_at v =
    cond (eqb v.code 10) (Err (unfit.Mark v.place)) (cond (eqb v.code 11) (Err (unfit.Outer v.place)) (cond (eqb v.code 12) (Err (unfit.Vertex v.place)) (Ok tt)))

pub unfit_is : (u : Result (Unit {0}) Unfit) {v : Verdict} → start.verdict_of u ≡ v → u ≡ unfit_at v
unfolding unfit_at
unfit_is u e = sym (back u) ∙ ap unfit_at e
  where
    back : (u : Result (Unit {0}) Unfit) → unfit_at (start.verdict_of u) ≡ u
    back (Ok _) = refl
    back (Err (unfit.Mark r)) = refl
    back (Err (unfit.Outer r)) = refl
    back (Err (unfit.Vertex v)) = refl

-- ---- `points::check_points`

unfoldable pub misplaced_at : Verdict → Result (Unit {0}) Misplaced
misplaced_at v =
    cond (eqb v.code 13) (Err (misplaced.Point v.place))
    (cond (eqb v.code 14) (Err (misplaced.Flat v.place)) (cond (eqb v.code 15) (Err (misplaced.Folded v.place)) (Ok tt)))

pub misplaced_is : (m : Result (Unit {0}) Misplaced) {v : Verdict} → placed.verdict_of m ≡ v → m ≡ misplaced_at v
unfolding misplaced_at
misplaced_is m e = sym (back m) ∙ ap misplaced_at e
  where
    back : (m : Result (Unit {0}) Misplaced) → misplaced_at (placed.verdict_of m) ≡ m
    back (Ok _) = refl
    back (Err (misplaced.Point v)) = refl
    back (Err (misplaced.Flat r)) = refl
    back (Err (misplaced.Folded r)) = refl

-- ---- `round::turn`

-- the walk about an edge stops so, and in no other way
pub record TheStop (t : Table) (inside : ℕ → Bool) (a b first second : ℕ) (stop : Stop) : Type 0 where
  pub stops : Turned t inside a b first second stop.at stop.next
  pub only : (other : Stop) → Turned t inside a b first second other.at other.next → other ≡ stop

pub stop_is : (t : Table) (inside : ℕ → Bool) (a b first second : ℕ) (stop : Stop) → Turned t inside a b first second stop.at stop.next → TheStop t inside a b first second stop
stop_is t inside a b first second stop turned = record {
  stops = turned;
  only = λ other turned'. let (at, next) = turned_once t inside a b first second turned' turned in λ i. record { at = at i; next = next i };
}

-- ---- `track::run` and `track_stl::write_skin`

unfoldable pub refusal_at : Verdict → Refusal
refusal_at v =
    cond (eqb v.code 1) (refusal.Header refused.Short) (cond (eqb v.code 2) (refusal.Header refused.Limits) (cond (eqb v.code 3) (refusal.Header refused.Layout)
    (cond (eqb v.code 4) refusal.Room
    (cond (eqb v.code 5) (refusal.Table (broken.Row v.place)) (cond (eqb v.code 6) (refusal.Table (broken.Order v.place))
    (cond (eqb v.code 7) (refusal.Table (broken.Triangle v.place)) (cond (eqb v.code 8) (refusal.Table (broken.Edge v.place))
    (cond (eqb v.code 9) (refusal.Table (broken.Vertex v.place))
    (cond (eqb v.code 10) (refusal.Marks (unfit.Mark v.place)) (cond (eqb v.code 11) (refusal.Marks (unfit.Outer v.place))
    (cond (eqb v.code 12) (refusal.Marks (unfit.Vertex v.place))
    (cond (eqb v.code 13) (refusal.Points (misplaced.Point v.place)) (cond (eqb v.code 14) (refusal.Points (misplaced.Flat v.place))
    (refusal.Points (misplaced.Folded v.place)))))))))))))))

unfoldable pub grown_at : Outcome → Result Grown Refusal
grown_at o = cond (eqb o.code 0) (Ok (record { taken = o.taken; triangles = o.triangles })) (Err (refusal_at (record { code = o.code; place = o.place })))

unfoldable pub unwritten_at : Verdict → Unwritten
unwritten_at v = cond (eqb v.code 20) unwritten.NoPoints (cond (eqb v.code 21) unwritten.Room (unwritten.Run (refusal_at v)))

unfoldable pub skin_at : Outcome → Result Grown Unwritten
skin_at o = cond (eqb o.code 0) (Ok (record { taken = o.taken; triangles = o.triangles })) (Err (unwritten_at (record { code = o.code; place = o.place })))

-- a refusal is told apart, whether of a run alone or of a run and its file
refusal_back : (e : Refusal) → (grown_at (outcome_of (Err e)) ≡ Err e) × (skin_at (skin.outcome_of (Err (unwritten.Run e))) ≡ Err (unwritten.Run e))
unfolding grown_at skin_at unwritten_at refusal_at
refusal_back (refusal.Header refused.Short) = (refl, refl)
refusal_back (refusal.Header refused.Limits) = (refl, refl)
refusal_back (refusal.Header refused.Layout) = (refl, refl)
refusal_back refusal.Room = (refl, refl)
refusal_back (refusal.Table (broken.Row r)) = (refl, refl)
refusal_back (refusal.Table (broken.Order r)) = (refl, refl)
refusal_back (refusal.Table (broken.Triangle r)) = (refl, refl)
refusal_back (refusal.Table (broken.Edge r)) = (refl, refl)
refusal_back (refusal.Table (broken.Vertex r)) = (refl, refl)
refusal_back (refusal.Marks (unfit.Mark r)) = (refl, refl)
refusal_back (refusal.Marks (unfit.Outer r)) = (refl, refl)
refusal_back (refusal.Marks (unfit.Vertex v)) = (refl, refl)
refusal_back (refusal.Points (misplaced.Point v)) = (refl, refl)
refusal_back (refusal.Points (misplaced.Flat r)) = (refl, refl)
refusal_back (refusal.Points (misplaced.Folded r)) = (refl, refl)

-- an outcome is that of one answer alone
grown_is : (r : Result Grown Refusal) {o : Outcome} → outcome_of r ≡ o → r ≡ grown_at o
unfolding grown_at
grown_is r e = sym (back r) ∙ ap grown_at e
  where
    back : (r : Result Grown Refusal) → grown_at (outcome_of r) ≡ r
    back (Ok grown) = refl
    back (Err e) = (refusal_back e).0

abbrev pub outcome_at : run.Result → Outcome
outcome_at r = record { code = r.code; place = r.place; taken = r.taken; triangles = r.triangles }

-- with the buffers as left
pub run_is : (r : Result Grown Refusal) {left : Lent} {ran : run.Result} → result_of (outcome_of r) left ≡ ran → (r ≡ grown_at (outcome_at ran)) × (left ≡ ran.left)
run_is r e = (grown_is r (ap outcome_at e), ap (λ (x : run.Result). x.left) e)

skin_is : (r : Result Grown Unwritten) {o : Outcome} → skin.outcome_of r ≡ o → r ≡ skin_at o
unfolding skin_at unwritten_at
skin_is r e = sym (back r) ∙ ap skin_at e
  where
    back : (r : Result Grown Unwritten) → skin_at (skin.outcome_of r) ≡ r
    back (Ok grown) = refl
    back (Err (unwritten.Run e)) = (refusal_back e).1
    back (Err unwritten.NoPoints) = refl
    back (Err unwritten.Room) = refl

-- with the buffers and the file as left
pub export_is : (r : Result Grown Unwritten) {left : Lent} {file : List ℕ} {x : Exported} → told (skin.outcome_of r) left file ≡ x
    → (r ≡ skin_at (outcome_at x.result)) × (left ≡ x.result.left) × (file ≡ x.file)
export_is r e = (skin_is r (ap (λ (y : Exported). outcome_at y.result) e), ap (λ (y : Exported). y.result.left) e, ap (λ (y : Exported). y.file) e)

-- ---- `stl::writer::write_facets`

unfoldable pub writing_at : Verdict → Result (Unit {0}) stl_writer.Refusal
writing_at v = cond (eqb v.code 1) (Err writing.Facets) (cond (eqb v.code 2) (Err (writing.Number v.place)) (cond (eqb v.code 3) (Err writing.Room) (Ok tt)))

pub writing_is : (w : Result (Unit {0}) stl_writer.Refusal) {left : List ℕ} {r : Wrote} → stl_writing.told w left ≡ r → (w ≡ writing_at r.verdict) × (left ≡ r.left)
unfolding writing_at stl_writing.verdict_of
writing_is w e = (sym (back w) ∙ ap (λ (x : Wrote). writing_at x.verdict) e, ap (λ (x : Wrote). x.left) e)
  where
    back : (w : Result (Unit {0}) stl_writer.Refusal) → writing_at (stl_writing.verdict_of w) ≡ w
    back (Ok _) = refl
    back (Err writing.Facets) = refl
    back (Err (writing.Number k)) = refl
    back (Err writing.Room) = refl

-- ---- `stl::reader::read_file`

-- a number off the grid with its bits, and its facet
unfoldable pub off_at : rules.Option (Float × ℕ) → ℕ → stl_reader.Refusal
off_at rules.none facet = file.NotZero facet
off_at (rules.some (x, bits)) facet = file.Off (record { number = x; bits = bits; facet = facet })

unfoldable pub file_reading_at : Read → Result ℕ stl_reader.Refusal
file_reading_at r =
    let v = r.verdict in
    cond (eqb v.code 1) (Err file.Length) (cond (eqb v.code 2) (Err file.Header) (cond (eqb v.code 3) (Err file.Room)
    (cond (eqb v.code 4) (Err (file.NotZero v.place)) (cond (eqb v.code 5) (Err (off_at r.off v.place)) (Ok r.facets)))))

pub file_reading_is : (a : Result ℕ stl_reader.Refusal) {left : List ℤ} {r : Read} → stl_reading.told a left ≡ r → (a ≡ file_reading_at r) × (left ≡ r.left)
unfolding file_reading_at off_at stl_reading.verdict_of stl_reading.facets_in stl_reading.off_in
file_reading_is a {left} e = (sym (back a) ∙ ap file_reading_at e, ap (λ (x : Read). x.left) e)
  where
    back : (a : Result ℕ stl_reader.Refusal) → file_reading_at (stl_reading.told a left) ≡ a
    back (Ok n) = refl
    back (Err file.Length) = refl
    back (Err file.Header) = refl
    back (Err file.Room) = refl
    back (Err (file.NotZero f)) = refl
    back (Err (file.Off off)) = refl
