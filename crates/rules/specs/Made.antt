-- Job files made from their parts.
use Rattle.std.specs.Prelude.{ℕ, ◌-◌, ◌*◌, Bool, List, [], ◌∷◌, ◌++◌, length, take}
use Rattle.rules.specs.Words.{words}
use Rattle.rules.specs.Proposals.{Proposal}
use Rattle.rules.specs.Job.{Form, Header, header_of, row_bytes, rows_at, marks_at, proposals_at, points_at, whole_length, point_bytes, section, Job}

-- the eight words of a header, as the table of the header asks
abbrev pub header_words : Form → Header → List ℕ
header_words f h = h.ids ∷ h.rows ∷ h.proposals ∷ rows_at ∷ marks_at f h ∷ proposals_at f h ∷ whole_length f h ∷ h.mode ∷ []

unfoldable pub header_bytes : Form → Header → List ℕ
header_bytes f h = words (header_words f h)

-- proposals as words: row number, then kind
unfoldable pub proposal_bytes : List Proposal → List ℕ
proposal_bytes [] = []
proposal_bytes (p ∷ ps) = words (p.row ∷ p.kind ∷ []) ++ proposal_bytes ps

-- the same V, N and word 7, and so many proposals
abbrev pub with_proposals : Header → ℕ → Header
with_proposals h k = record { ids = h.ids; rows = h.rows; proposals = k; mode = h.mode }

-- ---- other proposals, another order

-- the job with the same rows, points and order, and other marks and proposals
abbrev pub remade_job : List ℕ → List Proposal → Job → Job
remade_job marks proposals job = record { ids = job.ids; table = job.table; marks = marks; proposals = proposals; points = job.points; outward = job.outward }

-- the same job, to be listed outward or rising
abbrev pub asking_for : Bool → Job → Job
asking_for outward job = record { ids = job.ids; table = job.table; marks = job.marks; proposals = job.proposals; points = job.points; outward = outward }

-- the job with its first k proposals
abbrev pub cut_job : ℕ → Job → Job
cut_job k job = remade_job job.marks (take k job.proposals) job

-- the bytes of the points of a file
abbrev pub points_section : Form → List ℕ → List ℕ
points_section f bytes = section bytes (points_at f (header_of bytes)) (point_bytes f (header_of bytes))

-- the job file cut to its first k proposals
unfoldable pub cut_to : Form → ℕ → List ℕ → List ℕ
cut_to f k bytes =
    let h = with_proposals (header_of bytes) k in
    header_bytes f h ++ (section bytes rows_at (points_at f h - rows_at) ++ points_section f bytes)

-- the job file with the same rows and points, and other marks and proposals
unfoldable pub remade : Form → List ℕ → List Proposal → List ℕ → List ℕ
remade f marks proposals bytes =
    let h = with_proposals (header_of bytes) (length proposals) in
    header_bytes f h ++ (section bytes rows_at (row_bytes f * h.rows) ++ (marks ++ (proposal_bytes proposals ++ points_section f bytes)))
