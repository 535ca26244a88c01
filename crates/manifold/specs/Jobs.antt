-- Demand 3 for accepted jobs: those that `rules`' run gives code 0, whatever is lent.
use Rattle.std.specs.Prelude.{◌≡◌, ◌↔◌, true, false, List, ℕ, ◌+◌, ◌^◌, ◌≤◌, ◌<◌, take}
use Rattle.rules.specs.Cases.{triangles_on_skin}
use Rattle.rules.specs.Proposals.{Proposal, inside_in, answer, RefusedByCases}
use Rattle.rules.specs.Job.{Form, header_of, whole_length, Job, job_of, answers_of, standing, final_of, clean_with, Lent, accepted, run}
use Rattle.rules.specs.Made.{with_proposals, cut_job, cut_to}
use Rattle.rules.specs.Laws.Made.{cut_header}
use Rattle.rules.proofs.Laws.Made.{cut_laid, cut_job_lem}
use Rattle.rules.specs.Reading.Outer.{OuterAlike}
use Rattle.rules.specs.Reading.Codes.{WithinLimits, LaidOut, RoomShort, sections_passed}
use Rattle.rules.proofs.Reading.Codes.{run_as, accepted_outer, accepted_header}
use Rattle.manifold.specs.Steps.{PassesEarlier, flipped, AllTaken, undoing, alike_kept}

-- After each proposal, and before the first, the far edges at each skin corner form one single ring.
abbrev pub EveryStep : Job → Type 0
EveryStep job = (k : ℕ) → clean_with job (standing job k) ≡ true

-- A proposal that passes the earlier tests on the marks then standing is taken exactly if that leaves the skin clean, and refused by the five cases exactly if not:
-- with 5 + f, for f triangles of its row on the skin.
abbrev pub CasesDecide : Job → Type 0
CasesDecide job = (k : ℕ) (p : Proposal) → PassesEarlier job.table (standing job k) p
    → ((answer job.table (standing job k) p ≡ 0) ↔ (clean_with job (flipped (standing job k) p) ≡ true))
    × (RefusedByCases (answer job.table (standing job k) p) ↔ (clean_with job (flipped (standing job k) p) ≡ false))
    × ((f : ℕ) → (answer job.table (standing job k) p ≡ 5 + f)
    ↔ ((triangles_on_skin job.table (inside_in (standing job k)) p.row ≡ f) × (clean_with job (flipped (standing job k) p) ≡ false)))

-- The taken proposals, run backwards with add and remove exchanged, are all taken and bring back the start.
abbrev pub Backwards : Job → Type 0
Backwards job = AllTaken job.table (final_of job) (undoing (answers_of job) job.proposals) job.marks

-- At each step the outer rows are alike, all inside or all outside.
abbrev pub AlikeSteps : Job → Type 0
AlikeSteps job = (k : ℕ) → OuterAlike job.table (standing job k)

module _ (f : Form) (bytes : List ℕ) (lent : Lent) (corners : f.corners ≡ 4) (ran : (run f bytes lent).code ≡ 0) where
  abbrev job : Job
  job = job_of f bytes

  pub job_alike : AlikeSteps (job_of f bytes)
  job_alike k = alike_kept job.table job.marks (take k job.proposals) (accepted_outer f bytes lent ran)

  -- ---- the same as jobs, with whatever buffers that are long enough

  module _ (mode_small : f.mode + 3 < 256 ^ 4) (small : whole_length f (header_of bytes) < 256 ^ 4) where
    pub limits : WithinLimits f (header_of bytes)
    limits = (accepted_header f bytes lent ran).0

    pub laid : LaidOut f (header_of bytes) bytes
    laid = (accepted_header f bytes lent ran).1

    -- The job cut to its first k proposals is run, and gives what it gives for these.
    pub cut_run : (k : ℕ) → k ≤ (header_of bytes).proposals → (buffers : Lent) → (RoomShort f (with_proposals (header_of bytes) k) buffers → ⊥)
        → run f (cut_to f k bytes) buffers ≡ accepted (cut_job k job) buffers
    cut_run k few buffers room =
        run_as f (cut_to f k bytes) buffers (with_proposals (header_of bytes) k) (cut_job k job) (cut_header f bytes limits laid mode_small small k few)
        (cut_job_lem f bytes limits laid mode_small small k few) (cut_laid f bytes limits laid mode_small small k few) room (sections_passed f bytes lent ran)
