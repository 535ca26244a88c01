-- The three demands, whole, of one run: the bytes of a job file, the four buffers as lent, what was returned, and the buffers as left; and
-- what document 02 promises beside them. `demands::run`, which is `track::run`, has them for its contract. What was returned stands here as
-- code, place and the two counts (`outcome_of` of `track`).
use Rattle.std.specs.Prelude.{◌≡◌, ◌↔◌, ◌≢◌, ℕ, ◌+◌, ◌*◌, ◌≤◌, ◌<◌, length, get_or, take, drop, replicate}
use Rattle.std.proofs.Math.Option.{some}
use mathlib.Core.List.{List, ◌++◌, flatten}
use Rattle.rules.specs.Points.{Point}
use Rattle.rules.specs.Proposals.{Proposal, RefusedByCases, taken}
use Rattle.rules.specs.Job.{track, header_of, Job, job_of, answers_of, standing, final_of, skin_with, work_with, listed_of, Lent, work_room, written, codes, run}
use Rattle.rules.specs.Made.{with_proposals, cut_to, remade}
use Rattle.rules.specs.Laws.Count.{ExactlyOne, TheOther}
use Rattle.rules.specs.Laws.Lists.{Among, Distinct, Exactly}
use Rattle.rules.specs.Laws.First.{condition_at, FirstOf}
use Rattle.rules.specs.Reading.Rows.{Holds}
use Rattle.rules.specs.Reading.Neighbours.{Side}
use Rattle.rules.specs.Reading.Skin.{Inside, BetweenSides, SkinTriangle}
use Rattle.rules.specs.Reading.Outer.{Outer, OuterAlike}
use Rattle.rules.specs.Reading.Ring.{Clean}
use Rattle.rules.specs.Reading.Answers.{TrianglesOnSkin, answer_conditions}
use Rattle.rules.specs.Reading.Codes.{RoomShort, job_conditions}
use Rattle.rules.specs.Reading.Listing.{ThreeRising, SideTriangle, InOrder}
use Rattle.rules.specs.Reading.Outward.{listed_id, Passes, FacesOutward, AsRising}
use Rattle.manifold.specs.Steps.{PassesEarlier, flipped, undoing}
use Rattle.track.specs.Outcomes.{Outcome}

-- proposal k of a job
abbrev pub proposal_at : Job → ℕ → Proposal
proposal_at job k = get_or job.proposals k (record { row = 0; kind = 0 })

-- the far edges at each skin corner form one single ring
abbrev pub CleanWith : Job → List ℕ → Type 0
CleanWith job marks = Clean job.table (Inside marks) job.ids

-- proposal k passes the tests 1 to 4
abbrev pub PassesAt : Job → ℕ → Type 0
PassesAt job k = PassesEarlier job.table (standing job k) (proposal_at job k)

-- f of the triangles of its row are on the skin of the marks then standing
abbrev pub OnSkinAt : Job → ℕ → ℕ → Type 0
OnSkinAt job k f = TrianglesOnSkin job.table (Inside (standing job k)) (proposal_at job k).row f

module _ (bytes : List ℕ) (before : Lent) (o : Outcome) (after : Lent) where
  abbrev pub job : Job
  job = job_of track bytes

  -- N and P
  abbrev pub rows : ℕ
  rows = (header_of bytes).rows

  abbrev pub proposals : ℕ
  proposals = (header_of bytes).proposals

  -- V
  abbrev pub ids : ℕ
  ids = (header_of bytes).ids

  -- word 7: 0 without points, 1 with points and a list that is outward, 3 with points and a list whose ids rise; any other is code 3
  abbrev pub word7 : ℕ
  word7 = (header_of bytes).mode

  -- the skin at the end, in the order asked for: what that means for each word 7 is said in `OutwardSkin`
  abbrev pub listed : List (List ℕ)
  listed = listed_of job

  -- byte k of answers
  abbrev pub answer_at : ℕ → ℕ
  answer_at k = get_or after.answers k 0

  -- Demand 1. Every job file gets an answer, damaged ones too; the refusals, their order and the contents of each lent buffer after one
  -- are exactly the listed ones.
  pub record Demand1 : Type 0 where
    -- an answer always: a code from 0 to 15
    pub answered : o.code ≤ codes
    -- code 1 + i at a place, exactly if row 1 + i of the table of codes holds there and no row before it holds anywhere
    pub refused_exactly : (i place : ℕ) → i < codes → ((o.code ≡ 1 + i) × (o.place ≡ place)) ↔ FirstOf (job_conditions track bytes before) i place
    -- code 0 exactly if no row of the table holds
    pub run_exactly : (o.code ≡ 0) ↔ ((i place : ℕ) → condition_at (job_conditions track bytes before) i place → ⊥)
    -- a refusal gives zero for both counts, and changes nothing in answers, final marks and triangles
    pub refusal_leaves : o.code ≢ 0
        → (o.taken ≡ 0) × (o.triangles ≡ 0) × (after.answers ≡ before.answers) × (after.final_marks ≡ before.final_marks) × (after.triangles ≡ before.triangles)
    -- codes 1 to 4 don't touch work; codes 5 to 15 leave zero in its first 4N + 2V words and the rest unchanged
    pub work_kept : o.code ≢ 0 → o.code ≤ 4 → after.work ≡ before.work
    pub work_cleared : 5 ≤ o.code → after.work ≡ replicate (work_room track (header_of bytes)) 0 ++ drop (work_room track (header_of bytes)) before.work

  -- Demand 2. In an accepted job each proposal is answered by the listed tests and Lhuillier's five cases, and the skin list is exactly
  -- the triangles with one tetrahedron inside and one outside, in the order asked for.
  pub record Demand2 : Type 0 where
    -- answer k is 1 + i exactly if row 1 + i of the table of answers holds of proposal k on the marks then standing and no row before it
    -- does, and 0 exactly if none does
    pub answered_exactly : (k i : ℕ) → k < proposals → i < 7
        → (answer_at k ≡ 1 + i) ↔ ((place : ℕ) × FirstOf (answer_conditions job.table (standing job k) (proposal_at job k)) i place)
    pub taken_exactly : (k : ℕ) → k < proposals
        → (answer_at k ≡ 0) ↔ ((i place : ℕ) → condition_at (answer_conditions job.table (standing job k) (proposal_at job k)) i place → ⊥)
    -- the marks then standing: at first those of the file; only answer 0 changes a mark, the named one
    pub starts : standing job 0 ≡ job.marks
    pub taken_flips : (k : ℕ) → k < proposals → answer_at k ≡ 0 → standing job (k + 1) ≡ flipped (standing job k) (proposal_at job k)
    pub refused_keeps : (k : ℕ) → k < proposals → answer_at k ≢ 0 → standing job (k + 1) ≡ standing job k
    pub ends : final_of job ≡ standing job proposals
    -- The list of rising ids, which `as_rising` ties to the one that is left: a triangle is listed exactly if of the two rows that hold it
    -- one is inside and one outside at the end, whichever of them names it
    pub listed_exactly : (ids : List ℕ) → Among ids (skin_with job (final_of job)) ↔ SideTriangle job.table (Inside (final_of job)) ids
    -- its ids rise, it is listed once, and the list goes by inside row, then left-out corner
    pub ids_rise : (ids : List ℕ) → Among ids (skin_with job (final_of job)) → ThreeRising ids
    pub listed_once : Distinct (skin_with job (final_of job))
    pub in_order : InOrder job.table (Inside (final_of job)) (skin_with job (final_of job))
    -- word 4r + c of work is the one other row that holds the triangle of row r that leaves out corner c
    pub neighbour_at : (r c : ℕ) → r < rows → c < 4 → (other : TheOther rows (Side job.table r c) r) × (get_or after.work (4 * r + c) 0 ≡ other.other)
    -- the counts: the answers that are 0, and the triangles of the skin
    pub taken_counted : o.taken ≡ taken (take proposals after.answers)
    pub triangles_counted : o.triangles ≡ length (skin_with job (final_of job))
    pub place_zero : o.place ≡ 0
    -- the answers, the final marks, the skin, three ids each, and the work area for the final marks stand at the front, and all after them
    -- is unchanged
    pub answers_left : after.answers ≡ written (answers_of job) before.answers
    pub marks_left : after.final_marks ≡ written (final_of job) before.final_marks
    pub triangles_left : after.triangles ≡ written (flatten listed) before.triangles
    pub work_left : after.work ≡ written (work_with job (final_of job)) before.work

  -- the final marks as lent back, and the taken proposals backwards with add and remove exchanged: taken are those whose byte in answers is 0
  abbrev pub marks_back : List ℕ
  marks_back = take rows after.final_marks

  abbrev pub backwards : List Proposal
  backwards = undoing after.answers job.proposals

  -- Demand 3. For every accepted job, after each proposal the far edges at each skin corner form one single ring; a proposal that passes
  -- the earlier tests is refused exactly if taking it would break that; and the taken proposals, run backwards with add and remove
  -- exchanged, are all taken and bring back the start.
  pub record Demand3 : Type 0 where
    -- after the first k proposals, for every k; an empty skin is clean (`empty_clean` of `Reading.Listing`)
    pub every_step : (k : ℕ) → CleanWith job (standing job k)
    -- so are the final marks lent back
    pub final_standing : marks_back ≡ standing job proposals
    pub final_clean : CleanWith job marks_back
    -- answer k is that of the five cases, 5, 6 or 7, exactly if the tests 1 to 4 pass and the skin with the named mark flipped is not
    -- clean; each of the three exactly if f is 0, 1 or 2 as well; and 0 exactly if they pass and it is clean
    pub refused_only_then : (k : ℕ) → k < proposals
        → RefusedByCases (answer_at k) ↔ (PassesAt job k × (CleanWith job (flipped (standing job k) (proposal_at job k)) → ⊥))
    pub each_case_only_then : (k f : ℕ) → k < proposals → f < 3
        → (answer_at k ≡ 5 + f) ↔ (PassesAt job k × OnSkinAt job k f × (CleanWith job (flipped (standing job k) (proposal_at job k)) → ⊥))
    pub taken_only_then : (k : ℕ) → k < proposals → (answer_at k ≡ 0) ↔ (PassesAt job k × CleanWith job (flipped (standing job k) (proposal_at job k)))
    -- as many as were taken, so at most P
    pub as_many : length backwards ≡ o.taken
    pub no_more : length backwards ≤ proposals
    -- the job of the same rows with the final marks and these proposals is run, all its answers are 0, and it leaves the starting marks
    pub undone : (lent : Lent) → (RoomShort track (with_proposals (header_of bytes) (length backwards)) lent → ⊥)
        → ((run track (remade track marks_back backwards bytes) lent).code ≡ 0)
        × ((run track (remade track marks_back backwards bytes) lent).left.answers ≡ written (replicate (length backwards) 0) lent.answers)
        × ((run track (remade track marks_back backwards bytes) lent).left.final_marks ≡ written job.marks lent.final_marks)
    -- growing stops when the time is up: the job cut to its first k proposals is run, and leaves the marks that stand after them
    pub cut : (k : ℕ) → k ≤ proposals → (lent : Lent) → (RoomShort track (with_proposals (header_of bytes) k) lent → ⊥)
        → ((run track (cut_to track k bytes) lent).code ≡ 0) × ((run track (cut_to track k bytes) lent).left.final_marks ≡ written (standing job k) lent.final_marks)

  -- Document 02 (ii): the skin of an accepted job is finite. At every step its outer rows are alike, all inside or all outside; so no skin
  -- triangle holds id 0, and of the two rows at a skin triangle, one inside and one outside, at most one is outer.
  pub record FiniteSkin : Type 0 where
    -- after the first k proposals, for every k
    pub outer_alike : (k : ℕ) → OuterAlike job.table (standing job k)
    pub no_infinite_vertex : (k : ℕ) (ids : List ℕ) → SideTriangle job.table (Inside (standing job k)) ids → Among 0 ids → ⊥
    pub one_outer : (k r c : ℕ) (b : BetweenSides job.table (Inside (standing job k)) r c) → Outer job.table b.in_row → Outer job.table b.out_row → ⊥
    -- of the ids that are left at the front of triangles none is 0
    pub listed_finite : Among 0 (take (3 * o.triangles) after.triangles) → ⊥

  -- Document 02 (iii) and (v): the skin in the order that word 7 asks for. Outward triangles tell which side is up. There are points exactly
  -- if word 7 is 1 or 3, and they stand behind the proposals (`points_exactly` and `point_stands` of `Reading.File`).
  pub record OutwardSkin : Type 0 where
    -- rising, unless word 7 is 1
    pub rising_unless : word7 ≢ 1 → listed ≡ skin_with job (final_of job)
    -- the same triangles in the same order, in some of them the last two ids exchanged
    pub as_rising : AsRising listed (skin_with job (final_of job))
    -- where word 7 is 1 there are points, and each of the triangles left has its inside row's fourth corner behind it, or, where that row is
    -- outer, its outside row's fourth corner in front
    pub faces_outward : word7 ≡ 1 → (at : ℕ → Point) × (job.points ≡ some at) × ((k : ℕ) → k < o.triangles
        → FacesOutward job.table at (Inside (final_of job)) (listed_id after.triangles k 0) (listed_id after.triangles k 1) (listed_id after.triangles k 2))
    -- and each edge x y of a skin triangle is passed once each way: exactly one of the triangles left passes from x to y, and exactly one
    -- from y to x
    pub each_way : word7 ≡ 1 → (x y w : ℕ) → SkinTriangle job.table (Inside (final_of job)) x y w
        → ExactlyOne o.triangles (Passes after.triangles x y) × ExactlyOne o.triangles (Passes after.triangles y x)

  -- Document 02 (vii): corner tallies in the work area, true after each proposal.
  pub record CornerTallies : Type 0 where
    -- word 4N + v of work is how many inside rows hold v after the last proposal, and word 4N + V + v how many rows hold v, outer ones too
    pub inside_at : (v : ℕ) → v < ids → Exactly rows (λ r. Inside (final_of job) r × Holds job.table r v) (get_or after.work (4 * rows + v) 0)
    pub all_at : (v : ℕ) → v < ids → Exactly rows (λ r. Holds job.table r v) (get_or after.work (4 * rows + ids + v) 0)
    -- after the first k proposals, for every k: the job cut to these is run, and leaves the work area for the marks that stand then
    pub each_step : (k : ℕ) → k ≤ proposals → (lent : Lent) → (RoomShort track (with_proposals (header_of bytes) k) lent → ⊥)
        → (run track (cut_to track k bytes) lent).left.work ≡ written (work_with job (standing job k)) lent.work

  pub record Demands : Type 0 where
    pub one : Demand1
    pub two : o.code ≡ 0 → Demand2
    pub three : o.code ≡ 0 → Demand3
    pub finite : o.code ≡ 0 → FiniteSkin
    pub outwards : o.code ≡ 0 → OutwardSkin
    pub tallies : o.code ≡ 0 → CornerTallies
