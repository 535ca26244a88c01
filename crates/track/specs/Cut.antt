-- The sections of a job that is as long as its header says, by their offsets.
use Rattle.std.specs.Prelude.{◌≡◌, ℕ, ◌-◌, ◌*◌, ◌/◌, length, take, drop}
use Rattle.std.proofs.Math.Path.{ap, ap₂}
use Rattle.std.proofs.Common.{◌∙◌, arith}
use mathlib.Core.List.{List}
use Rattle.rules.specs.Below.{tabulate}
use Rattle.rules.specs.Job.{track, row_bytes, rows_at, marks_at, proposals_at, points_at, asks_outward, point_bytes, whole_length, section, rows_table, proposal_in, points_of, job_by, job_of}
use Rattle.rules.specs.Laws.Lists.{part_length}
use Rattle.job.specs.declared.Header.{Header}
use Rattle.job.specs.Reading.{meant, header}
use Rattle.table.specs.Rows.{rows_in, table_in, table_in_lem}
use Rattle.growth.specs.Answers.{proposals_in}
use Rattle.track.specs.Stages.{job_in}

module _ {h : Header} (job : List ℕ) (is : h ≡ header job) (long : length job ≡ whole_length track (meant h))
    {a b c d : ℕ} (ea : a ≡ rows_at) (eb : b ≡ marks_at track (meant h)) (ec : c ≡ proposals_at track (meant h)) (ed : d ≡ points_at track (meant h)) where
  -- the sections, as they are cut out
  abbrev rows : List ℕ
  rows = take (b - a) (drop a job)

  abbrev marks : List ℕ
  marks = take (c - b) (drop b job)

  abbrev proposals : List ℕ
  proposals = take (d - c) (drop c job)

  abbrev points : List ℕ
  points = take (length job - d) (drop d job)

  rows_is : rows ≡ section job rows_at (row_bytes track * h.rows)
  rows_is = let size : b - a ≡ row_bytes track * h.rows = omega (arith, ea, eb) in ap₂ (λ (n m : ℕ). take n (drop m job)) size ea

  pub marks_is : marks ≡ section job (marks_at track (meant h)) h.rows
  marks_is = let size : c - b ≡ h.rows = omega (arith, eb, ec) in ap₂ (λ (n m : ℕ). take n (drop m job)) size eb

  proposals_is : proposals ≡ section job (proposals_at track (meant h)) (8 * h.proposals)
  proposals_is = let size : d - c ≡ 8 * h.proposals = omega (arith, ec, ed) in ap₂ (λ (n m : ℕ). take n (drop m job)) size ec

  pub points_is : points ≡ section job (points_at track (meant h)) (point_bytes track (meant h))
  points_is = let size : length job - d ≡ point_bytes track (meant h) = omega (arith, ed, long) in ap₂ (λ (n m : ℕ). take n (drop m job)) size ed

  rows_long : length rows ≡ row_bytes track * h.rows
  rows_long = ap length rows_is ∙ part_length job rows_at (row_bytes track * h.rows) (omega (arith, long))

  pub counted : rows_in rows ≡ h.rows
  unfolding rows_in
  counted = omega (arith, rows_long)

  proposals_long : length proposals ≡ 8 * h.proposals
  proposals_long = ap length proposals_is ∙ part_length job (proposals_at track (meant h)) (8 * h.proposals) (omega (arith, long))

  pub proposals_counted : length proposals / 8 ≡ h.proposals
  proposals_counted = omega (arith, proposals_long)

  -- they hold the job
  pub job_is : job_in h rows marks proposals points ≡ job_of track job
  unfolding job_of proposals_in
  job_is = (λ k. record { ids = h.ids; table = table_is k; marks = marks_is k; proposals = proposals_are k; points = points_of track (meant h) (points_is k); outward = asks_outward track (meant h) }) ∙ ap (λ (x : Header). job_by track (meant x) job) is
    where
      table_is : table_in rows ≡ (job_by track (meant h) job).table
      table_is = table_in_lem rows ∙ ap₂ (λ (n : ℕ) (xs : List ℕ). rows_table track n xs) counted rows_is

      proposals_are : proposals_in proposals ≡ (job_by track (meant h) job).proposals
      proposals_are = ap₂ (λ (n : ℕ) (xs : List ℕ). tabulate n (proposal_in xs)) proposals_counted proposals_is
