-- The answers of a job: one for each proposal.
use Rattle.std.specs.Prelude.{◌≡◌, List, ℕ, length}
use Rattle.std.proofs.Common.{◌∙◌}
use Rattle.rules.specs.Job.{Form, header_of, job_of, answers_of}
use Rattle.rules.specs.Laws.Proposals.{answers_length}
use Rattle.rules.specs.Laws.Job.{job_proposals}

module _ (f : Form) (bytes : List ℕ) where
  -- one answer for each proposal
  pub job_answers : length (answers_of (job_of f bytes)) ≡ (header_of bytes).proposals
  job_answers = answers_length (job_of f bytes).table (job_of f bytes).marks (job_of f bytes).proposals ∙ job_proposals f bytes
