-- Document 02 (vi), STL for the workshop, of its three calls: what the functions of `demands::workshop` have for contracts.
use Rattle.std.specs.Prelude.{◌≡◌, ◌↔◌, ◌⊎◌, ◌≢◌, Bool, true, false, ℕ, ◌+◌, ◌*◌, ◌≤◌, ◌<◌, ℤ, pos, nat_abs, length, get_or, take}
use Rattle.std.proofs.Math.Option.{some}
use mathlib.Core.List.{List, flatten}
use Rattle.std.specs.Float.{binary32}
use Rattle.std.specs.Float.Ieee.{nan_bits}
use Rattle.std.specs.Float.Ieee.Exact.{HasValue}
use Rattle.rules.specs.Points.{Point, below_zero}
use Rattle.rules.specs.Job.{track, header_of, Job, job_of, final_of, skin_with, Lent, written, Result, run}
use Rattle.rules.specs.Stl.{metres, bits_of, file_length, file_of, bits_off, units_of, units_in, Read, read_file, corners_of, outward_skin}
use Rattle.rules.specs.Laws.Count.{ExactlyOne}
use Rattle.rules.specs.Reading.Points.{InRange}
use Rattle.rules.specs.Reading.Skin.{Inside, SkinTriangle}
use Rattle.rules.specs.Reading.Outward.{listed_id, Passes, FacesOutward, AsRising}
use Rattle.track.specs.Outcomes.{Outcome, result_of}
use Rattle.trips.proofs.Trips.{Writable, Readable}

-- A number: the units divided by 16, which loses nothing.
pub record Numbers : Type 0 where
  -- for each of the 2,047 numbers of the grid, the f32 that is written is its sixteenth, sign and all
  pub exact : (u : ℤ) → InRange u → HasValue (metres u) (below_zero u) (nat_abs u) 16
  -- zero is written positive: its bits are all zero
  pub zero_positive : bits_of (pos 0) ≡ 0
  -- bits name a number of the grid exactly if they are the ones that are written for it; all others are off the grid
  pub named : (bits : ℕ) (u : ℤ) → ((bits_off bits ≡ false) × (units_of bits ≡ u)) ↔ (InRange u × (bits ≡ bits_of u))
  -- negative zero, every NaN and both infinities are off it
  pub minus_zero_off : bits_off 0x8000_0000 ≡ true
  pub nan_off : (bits : ℕ) → nan_bits binary32 bits ≡ true → bits_off bits ≡ true
  pub infinities_off : (bits_off 0x7f80_0000 ≡ true) × (bits_off 0xff80_0000 ≡ true)

-- a call's output buffer: a refused call leaves it unchanged, and an accepted one changes only the front that it fills
abbrev pub Filled {ℓ} : {A : Type ℓ} → Type 0 → List A → List A → List A → Type ℓ
Filled Accepted front before after = (Accepted → after ≡ written front before) × ((Accepted → ⊥) → after ≡ before)

-- Writing then reading gives the same corners. Of a list of units, the two buffers as lent, whether both calls were accepted, and the
-- buffers as left.
pub record WrittenRead (units : List ℤ) (file : List ℕ) (back : List ℤ) (both : Bool) (file_left : List ℕ) (back_left : List ℤ) : Type 0 where
  -- both are accepted exactly if the facet writer takes the list and there is room to read it back
  pub both_exactly : (both ≡ true) ↔ (Writable units (length file) × (length units ≤ length back))
  -- the list is then back; the file is written wherever the list is taken
  pub same_corners : Filled (both ≡ true) units back back_left
  pub file_written : Filled (Writable units (length file)) (file_of units) file file_left

-- An accepted file reads and writes to the same bytes. Of a file, the two buffers as lent, whether both calls were accepted, and the
-- buffers as left.
pub record ReadWritten (file : List ℕ) (units : List ℤ) (again : List ℕ) (both : Bool) (units_left : List ℤ) (again_left : List ℕ) : Type 0 where
  -- both are accepted exactly if the reader takes the file and there is room to write it again
  pub both_exactly : (both ≡ true) ↔ (Readable file (length units) × (length file ≤ length again))
  -- the same bytes then stand again; the units are read wherever the file is taken
  pub same_bytes : Filled (both ≡ true) file again again_left
  pub units_read : Filled (Readable file (length units)) (units_in file) units units_left

-- corner j of facet k, of a list of units
abbrev pub corner_in : List ℤ → ℕ → ℕ → Point
corner_in units k j =
    let from = 9 * k + 3 * j in
    record { x = get_or units from (pos 0); y = get_or units (from + 1) (pos 0); z = get_or units (from + 2) (pos 0) }

-- a job has points: word 7 is 1 or 3
abbrev pub HasPoints : List ℕ → Type 0
HasPoints bytes = ((header_of bytes).mode ≡ 1) ⊎ ((header_of bytes).mode ≡ 3)

-- so many bytes are the file of its skin after the last proposal
abbrev pub needed : List ℕ → ℕ
needed bytes = file_length (length (skin_with (job_of track bytes) (final_of (job_of track bytes))))

-- The job's writer: of the bytes of a job, its four buffers and the file as lent, what was returned, and these as left.
module _ (bytes : List ℕ) (before : Lent) (file : List ℕ) (o : Outcome) (after : Lent) (file_left : List ℕ) where
  abbrev pub job : Job
  job = job_of track bytes

  -- the run of the job, of which the three demands hold
  abbrev pub ran : Result
  ran = run track bytes before

  -- the facets: the skin after the last proposal, outward whatever word 7 asks for; and their ids, three each
  abbrev pub facets : List (List ℕ)
  facets = outward_skin job

  abbrev pub ids : List ℕ
  ids = flatten facets

  -- what is read from the file that was written, into such units
  abbrev pub read_back : List ℤ → Read
  read_back units = read_file (take (file_length o.triangles) file_left) units

  -- The file that is written, where the points are `at`.
  pub record Written (at : ℕ → Point) : Type 0 where
    -- the facets' file stands at the front, and all after it is unchanged
    pub front : file_left ≡ written (file_of (corners_of at facets)) file
    -- the facets are the skin triangles, in the order of demand 2's list, in some of them the last two ids exchanged
    pub as_rising : AsRising facets (skin_with job (final_of job))
    -- the reader takes the file, in any room for nine numbers a facet, and gives each facet's corners, the points of its ids
    pub taken_back : (units : List ℤ) → 9 * o.triangles ≤ length units → ((read_back units).verdict.code ≡ 0) × ((read_back units).facets ≡ o.triangles)
    pub corners_back : (units : List ℤ) → 9 * o.triangles ≤ length units → (k j : ℕ) → k < o.triangles → j < 3 → corner_in (read_back units).left k j ≡ at (listed_id ids k j)
    -- facets are always outward
    pub faces_outward : (k : ℕ) → k < o.triangles
        → FacesOutward job.table at (Inside (final_of job)) (listed_id ids k 0) (listed_id ids k 1) (listed_id ids k 2)
    -- and each edge x y of a skin triangle is passed once each way. (Edges are by ids: two ids that no row joins may have one point.)
    pub each_way : (x y w : ℕ) → SkinTriangle job.table (Inside (final_of job)) x y w
        → ExactlyOne o.triangles (Passes ids x y) × ExactlyOne o.triangles (Passes ids y x)

  pub record SkinFile : Type 0 where
    -- the job's other buffers stand as its run leaves them
    pub buffers : after ≡ ran.left
    -- the job's own code and place if the job is refused
    pub own_refusal : ran.code ≢ 0 → (o.code ≡ ran.code) × (o.place ≡ ran.place)
    -- then 20 no points, then 21 short room, and 0 if neither; their place is 0
    pub no_points : (o.code ≡ 20) ↔ ((ran.code ≡ 0) × (HasPoints bytes → ⊥))
    pub short_room : (o.code ≡ 21) ↔ ((ran.code ≡ 0) × HasPoints bytes × (length file < needed bytes))
    pub accepted : (o.code ≡ 0) ↔ ((ran.code ≡ 0) × HasPoints bytes × (needed bytes ≤ length file))
    pub place_zero : ran.code ≡ 0 → o.place ≡ 0
    -- a refused call gives zero for both counts, and leaves the file unchanged
    pub refusal_leaves : o.code ≢ 0 → (o.taken ≡ 0) × (o.triangles ≡ 0) × (file_left ≡ file)
    -- an accepted one returns what its run returns, and the file is written
    pub returned : o.code ≡ 0 → result_of o after ≡ ran
    pub is_written : o.code ≡ 0 → (at : ℕ → Point) × (job.points ≡ some at) × Written at
