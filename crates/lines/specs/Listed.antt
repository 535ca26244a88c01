-- What a run gives, and the listing of it.
use Rattle.std.specs.Prelude.{◌≡◌, refl, ◌≢◌, cond, ℕ, ◌+◌, ◌*◌, ◌≤◌, eqb, length, replicate}
use Rattle.std.proofs.Common.{sym, ap, ◌∙◌, arith}
use mathlib.Core.List.{List, flatten}
use Rattle.std.proofs.lemmas.List.{length-replicate}
use borrow.Author.Tests.{ne_eqb}
use Rattle.rules.specs.First.{first_match}
use Rattle.rules.specs.Outward.{triangle_as}
use Rattle.rules.specs.Proposals.{inside_in, taken}
use Rattle.rules.specs.Job.{track, header_of, most_rows, most_proposals, job_of, answers_of, final_of, listed_of, layout_tests, Result, written, accepted, run}
use Rattle.rules.specs.Laws.Job.{job_corners}
use Rattle.rules.proofs.Laws.Job.{job_answers}
use Rattle.rules.specs.Laws.Lists.{gather_same}
use Rattle.rules.specs.Laws.Written.{written_at}
use Rattle.rules.specs.Reading.Room.{skin_words}
use Rattle.rules.specs.Reading.Outward.{three_each}
use Rattle.rules.specs.Reading.Codes.{run_accepted, run_code, layout_passed}
use Rattle.rules.proofs.Reading.Codes.{accepted_header}
use Rattle.rules.proofs.Reading.Small.{triangles_small}
use Rattle.track.specs.Outcomes.{Outcome, lent, result_of}
use Rattle.lines.specs.Listing.{answer_line, answer_lines, triangle_line, triangle_lines, done_text, refused_text, listing, zeros, listing_of}
use Rattle.lines.specs.Put.{Put, put_front}

-- P, if the header is laid out
abbrev pub proposals_read : List ℕ → ℕ
proposals_read job = cond (eqb (first_match 1 (layout_tests track job)).code 0) (header_of job).proposals 0

-- the listing of a job at the front of a buffer
pub listed : (job : List ℕ) {text out out' : List ℕ} {n : ℕ} → text ≡ listing_of job → Put text out 0 out' n → n ≤ length out
    → (n ≡ length (listing_of job)) × (out' ≡ written (listing_of job) out)
listed job e p room = rw (← e) (put_front p (omega (arith, p.behind)))

module _ (job : List ℕ) {o : Outcome} {answers marks triangles work : List ℕ}
    (is : result_of o (lent answers marks triangles work) ≡ run track job (lent (replicate 1024 0) (replicate 2048 0) (replicate 12288 0) (replicate 10240 0))) where
  is_run : result_of o (lent answers marks triangles work) ≡ run track job zeros
  unfolding zeros
  is_run = is

  pub refused_is : o.code ≢ 0 → refused_text o.code o.place ≡ listing_of job
  unfolding listing_of listing
  refused_is ne = rw (← is_run, ne_eqb o.code 0 ne)

  module _ (z : o.code ≡ 0) where
    ran : (run track job zeros).code ≡ 0
    ran = sym (ap (λ (r : Result). r.code) is_run) ∙ z

    few_triangles : o.triangles ≤ 2 * most_rows
    few_triangles = omega (arith, ap (λ (r : Result). r.triangles) is_run, triangles_small track job zeros refl)

    -- p was read from the header
    module _ {p : ℕ} (ep : p ≡ proposals_read job) where
      the_proposals : p ≡ (header_of job).proposals
      the_proposals = ep ∙ rw (layout_passed track job zeros ran)

      few_proposals : p ≤ most_proposals
      few_proposals = rw the_proposals (accepted_header track job zeros ran).0.1.1

      pub done_fits : length answers ≡ length (replicate {A = ℕ} 1024 0) → length triangles ≡ length (replicate {A = ℕ} 12288 0)
          → (p ≤ most_proposals) × (o.triangles ≤ 2 * most_rows) × (p ≤ length answers) × (3 * o.triangles ≤ length triangles)
      done_fits ea et = (
        few_proposals,
        few_triangles,
        omega (arith, few_proposals, ea, length-replicate {A = ℕ} 1024 0),
        omega (arith, few_triangles, et, length-replicate {A = ℕ} 12288 0),
      )

      pub done_is : done_text p o.taken o.triangles answers triangles ≡ listing_of job
      unfolding listing_of listing
      done_is = rw (the_proposals, ← is_run, z)

-- ---- the listing of an accepted job, with no word of buffers

answers_front : (xs d : List ℕ) (n : ℕ) → n ≤ length xs → answer_lines (written xs d) n ≡ answer_lines xs n
unfolding answer_lines answer_line
answers_front xs d n l = gather_same n (answer_line (written xs d)) (answer_line xs) (λ k m. rw (written_at xs d k (omega arith)))

triangles_front : (xs d : List ℕ) (n : ℕ) → 3 * n ≤ length xs → triangle_lines (written xs d) n ≡ triangle_lines xs n
unfolding triangle_lines triangle_line
triangles_front xs d n l =
    gather_same n (triangle_line (written xs d)) (triangle_line xs) (λ k m.
    rw (written_at xs d (3 * k) (omega arith), written_at xs d (3 * k + 1) (omega arith), written_at xs d (3 * k + 2) (omega arith)))

pub accepted_listing : (bytes : List ℕ) → (run track bytes zeros).code ≡ 0
    → let job = job_of track bytes in
    let skin_list = listed_of job in
    listing_of bytes ≡ done_text (header_of bytes).proposals (taken (answers_of job)) (length skin_list) (answers_of job) (flatten skin_list)
unfolding listing_of listing accepted done_text
accepted_listing bytes z =
    let job = job_of track bytes in
    let skin_list = listed_of job in
    rw (
      run_accepted track bytes zeros (sym (run_code track bytes zeros) ∙ z),
      answers_front (answers_of job) zeros.answers (header_of bytes).proposals (omega (arith, job_answers track bytes)),
      triangles_front (flatten skin_list) zeros.triangles (length skin_list) (omega (arith, skin_words job.table (inside_in (final_of job)) (triangle_as job.table job.outward job.points) (three_each job.table job.outward job.points (job_corners track bytes)))),
    )
