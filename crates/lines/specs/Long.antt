-- An input that is longer than any job: its front alone has the same run, and the same listing.
use Rattle.std.specs.Prelude.{◌≡◌, ◌≢◌, Bool, true, false, cond, List, ℕ, ◌+◌, ◌≤◌, length, take}
use Rattle.std.proofs.Common.{sym, ap, ◌∙◌, zero-add, arith, length-take-le}
use Rattle.std.proofs.Math.Logic.{⊎_elim}
use borrow.Author.Tests.{le-ltb}
use Rattle.rules.specs.Below.{found}
use Rattle.rules.specs.First.{given, Verdict, first_match}
use Rattle.rules.specs.Words.{word}
use Rattle.rules.specs.Job.{Header, track, header_of, within_limits, rows_at, laid_out, layout_tests, Lent, Result, run}
use Rattle.rules.specs.Laws.Truth.{true_or_false, is_false}
use Rattle.rules.specs.Laws.Words.{word_part}
use Rattle.rules.specs.Laws.Job.{points_few}
use Rattle.rules.specs.Reading.Codes.{limits_read}
use Rattle.rules.proofs.Reading.Codes.{laid_out_reads}
use Rattle.track.specs.Outcomes.{refusal, result_of}
use Rattle.track.specs.Headers.{header_refused}
use Rattle.lines.specs.Listing.{zeros, listing_of}

-- code 3 within the limits of a header, and 2 outside them
abbrev long_code : Header → ℕ
long_code h = cond (within_limits track h) 3 2

abbrev long_verdict : Header → Verdict
long_verdict h = record { code = long_code h; place = 0 }

module _ (job : List ℕ) (long : 65536 ≤ length job) where
  not_laid_out : within_limits track (header_of job) ≡ true → laid_out track (header_of job) job ≡ false
  not_laid_out w =
      is_false (laid_out track (header_of job) job) (λ l.
      let (((_, v), (_, n)), (_, p)) = (limits_read track (header_of job)).0 w in
      let out = (laid_out_reads track (header_of job) job).0 l in
      omega (arith, out.1, out.0.0.1, points_few track (header_of job)))

  verdict_is : long_verdict (header_of job) ≡ first_match 1 (layout_tests track job)
  unfolding layout_tests first_match given found
  verdict_is =
      let whole = le-ltb (length job) rows_at (omega arith) in
      ⊎_elim (λ (w : within_limits track (header_of job) ≡ true). rw (whole, w, not_laid_out w)) (λ (o : within_limits track (header_of job) ≡ false). rw (whole, o))
      (true_or_false (within_limits track (header_of job)))

  some_code : long_code (header_of job) ≢ 0
  some_code z = go (within_limits track (header_of job)) z
    where
      go : (b : Bool) → ◌≡◌ {A = ℕ} (cond b 3 2) 0 → ⊥
      go true e = omega arith
      go false e = omega arith

  long_run : (buffers : Lent) → result_of (refusal (long_verdict (header_of job))) buffers ≡ run track job buffers
  long_run buffers = header_refused job buffers verdict_is some_code

  -- it is refused
  pub long_code_lem : (buffers : Lent) → (run track job buffers).code ≢ 0
  long_code_lem buffers z = some_code (ap (λ (r : Result). r.code) (long_run buffers) ∙ z)

same_word : (n : ℕ) (input : List ℕ) (place : ℕ) → place + 4 ≤ n → word 4 (take n input) place ≡ word 4 input place
same_word n input place l = word_part 4 input 0 n place l ∙ ap (word 4 input) (zero-add place)

same_header : (n : ℕ) (input : List ℕ) → rows_at ≤ n → header_of (take n input) ≡ header_of input
unfolding header_of
same_header n input l = rw (same_word n input 0 (omega arith), same_word n input 4 (omega arith), same_word n input 8 (omega arith), same_word n input 28 (omega arith))

module _ (n : ℕ) (input : List ℕ) (large : 65536 ≤ n) (long : n ≤ length input) where
  pub front_long : 65536 ≤ length (take n input)
  front_long = rw (length-take-le n input long) large

  pub run_enough : (buffers : Lent) → run track (take n input) buffers ≡ run track input buffers
  run_enough buffers =
      sym (long_run (take n input) front_long buffers)
      ∙ ap (λ (h : Header). result_of (refusal (long_verdict h)) buffers) (same_header n input (omega arith))
      ∙ long_run input (omega arith) buffers

  pub front_enough : listing_of (take n input) ≡ listing_of input
  unfolding listing_of
  front_enough = rw (same_header n input (omega arith), run_enough zeros)
