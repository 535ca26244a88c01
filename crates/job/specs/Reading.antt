-- What reading a header gives, and document 01's number for each answer.
use Rattle.std.specs.Prelude.{◌≡◌, Result, Ok, Err, Bool, true, false, not, List, ℕ, ◌≤◌, ◌<◌, length}
use Rattle.std.proofs.Math.Path.{sym}
use Rattle.std.proofs.Common.{ap, ◌∙◌}
use borrow.Author.Tests.{lt-ltb, le-ltb, not-true, not-false}
use Rattle.rules.specs.Job as rules
use Rattle.rules.specs.Below.{found}
use Rattle.rules.specs.First.{given, Verdict, first_match}
use Rattle.rules.specs.Job.{track, header_of, most_ids, most_rows, most_proposals, within_limits, rows_at, laid_out, layout_tests}
use Rattle.rules.specs.Reading.Codes.{limits_read, laid_passed}
use Rattle.job.specs.declared.Header.{Header}
use Rattle.job.specs.declared.Refused.{Refused}
use Rattle.job.specs.declared.Refused.TheVariants.{Short, Limits, Layout}

-- the header as `rules` has it
abbrev pub meant : Header → rules.Header
meant h = record { ids = h.ids; rows = h.rows; proposals = h.proposals; mode = h.mode }

abbrev pub header : List ℕ → Header
header job = let h = header_of job in record { ids = h.ids; rows = h.rows; proposals = h.proposals; mode = h.mode }

-- document 01's code and place
abbrev pub verdict_of : Result Header Refused → Verdict
verdict_of (Err Short) = record { code = 1; place = 0 }
verdict_of (Err Limits) = record { code = 2; place = 0 }
verdict_of (Err Layout) = record { code = 3; place = 0 }
verdict_of (Ok h) = record { code = 0; place = 0 }

-- the header that an answer holds; where it holds none, the other
abbrev pub header_in : Result Header Refused → Header → Header
header_in (Err refused) other = other
header_in (Ok h) other = h

-- ---- each answer from the tests that led to it

pub reads_short : (job : List ℕ) → length job < rows_at → verdict_of (Err Short) ≡ first_match 1 (layout_tests track job)
unfolding layout_tests first_match given found
reads_short job l = rw (lt-ltb (length job) rows_at l)

-- h is the header that was read, and `limits` and `laid` what its tests gave
module _ (job : List ℕ) (long : rows_at ≤ length job) (h : Header) (is : h ≡ header job) (limits : Bool) (limited : limits ≡ within_limits track (meant h)) where
  limits_are : limits ≡ within_limits track (header_of job)
  limits_are = rw is at limited

  pub reads_limits : not limits ≡ true → verdict_of (Err Limits) ≡ first_match 1 (layout_tests track job)
  unfolding layout_tests first_match given found
  reads_limits f = rw (le-ltb (length job) rows_at long, sym limits_are ∙ not-true limits f)

  -- what the layout may rest on
  pub within_rooms : not limits ≡ false → (rows_at ≤ length job) × (h.ids ≤ most_ids) × (h.rows ≤ most_rows) × (h.proposals ≤ most_proposals)
  within_rooms t =
      let (((_, v), (_, n)), (_, p)) = (limits_read track (meant h)).0 (sym limited ∙ not-false limits t) in (long, v, n, p)

  module _ (t : not limits ≡ false) (laid : Bool) (laid_is : laid ≡ laid_out track (meant h) job) where
    passed : within_limits track (header_of job) ≡ true
    passed = sym limits_are ∙ not-false limits t

    laid_out_lem : laid ≡ laid_out track (header_of job) job
    laid_out_lem = rw is at laid_is

    pub reads_layout : not laid ≡ true → verdict_of (Err Layout) ≡ first_match 1 (layout_tests track job)
    unfolding layout_tests first_match given found
    reads_layout f = rw (le-ltb (length job) rows_at long, passed, sym laid_out_lem ∙ not-true laid f)

    pub reads_laid : not laid ≡ false → verdict_of (Ok h) ≡ first_match 1 (layout_tests track job)
    unfolding layout_tests first_match given found
    reads_laid u = rw (le-ltb (length job) rows_at long, passed, sym laid_out_lem ∙ not-false laid u)

-- ---- what the contract of `read` says of an answer: what is laid out is the header of the job, within its limits
pub laid_header : (job : List ℕ) {r : Result Header Refused} → (verdict_of r ≡ first_match 1 (layout_tests track job)) × (header_in r (header job) ≡ header job) → {h : Header} → r ≡ Ok h
    → (h ≡ header job) × (within_limits track (header_of job) ≡ true) × (laid_out track (header_of job) job ≡ true)
laid_header job told e =
    let (verdict, held) = rw e at told in
    let (limits, laid) = laid_passed track job (ap (λ (v : Verdict). v.code) (sym verdict)) in
    (held, limits, laid)
