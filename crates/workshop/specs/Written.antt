-- The answers of the job's writer, and what is said of each.
use Rattle.std.specs.Prelude.{◌≡◌, ◌≢◌, Bool, cond, ℕ, ◌≤◌, take, replicate}
use Rattle.std.proofs.Math.Path.{refl, sym, ap, subst}
use Rattle.std.proofs.Common.{◌∙◌}
use Rattle.std.proofs.Math.Bool.{true, false}
use Rattle.std.proofs.Math.Option.{Option, some, none}
use mathlib.Core.List.{List, [], ◌∷◌, flatten}
use native.Mathlib.Omega.{arith}
use Rattle.std.proofs.Math.Dec.{eqb}
use Rattle.std.proofs.Math.ListN.{length, length-replicate}
use borrow.Author.Tests.{eqb-true, eq-eqb, ne_eqb}
use Rattle.rules.specs.Below.{found}
use Rattle.rules.specs.First.{given, Verdict, first_match}
use Rattle.rules.specs.Points.{Point, point_in}
use Rattle.rules.specs.Outward.{triangle_as}
use Rattle.rules.specs.Proposals.{inside_in}
use Rattle.rules.specs.Job.{Form, track, header_of, has_points, point_bytes, points_at, section, points_of, job_of, final_of, Lent, written, Result, run}
use Rattle.rules.specs.Stl.{most_facets, file_length, facets_of, file_of, corners_of, outward_skin, skin_file, file_tests, unwritten, Exported, exported, write_skin}
use Rattle.rules.specs.Laws.Truth.{not_both, is_true}
use Rattle.rules.specs.Laws.First.{match_here}
use Rattle.rules.specs.Laws.Job.{job_corners}
use Rattle.rules.specs.Laws.Stl.{file_length_lem}
use Rattle.rules.specs.Reading.Room.{skin_words}
use Rattle.rules.specs.Reading.Outward.{three_each}
use Rattle.rules.proofs.Reading.Small.{triangles_small}
use Rattle.track.specs.Outcomes.{Outcome, lent, result_of}
use Rattle.track.specs.Refusals.{refusal_code}
use Rattle.track_stl.specs.Corners.{three_units}
use Rattle.track_stl.specs.declared.unwritten.Unwritten.{Unwritten}
use Rattle.track_stl.specs.declared.unwritten.Unwritten.TheVariants.{Run, NoPoints, Room}
use Rattle.track_stl.specs.Outcomes.{verdict_of}
use Rattle.track_stl.specs.Ran.{told, triangles_told}
use Rattle.lines.specs.Listing.{line, word_refused, refused_text, zeros}
use Rattle.lines.specs.Long.{front_long, long_code_lem, run_enough}
use Rattle.workshop.specs.Said.{Says}
use Rattle.workshop.specs.Skin.{skin_answer, skin_refused, skin_said}

-- ---- the writer's answer, by whether the job is run and whether its file is written

module _ (f : Form) (bytes : List ℕ) (buffers : Lent) where
  abbrev ran : Result
  ran = run f bytes buffers

  abbrev verdict : ℕ → Verdict
  verdict room = first_match 20 (file_tests f bytes ran.triangles room)

  abbrev answer : Bool → Bool → Verdict → List ℕ → Exported
  answer runs writes v file =
      cond runs
      (cond writes (record { result = ran; file = written (skin_file (job_of f bytes)) file }) (record { result = unwritten v ran.left; file = file }))
      (record { result = ran; file = file })

  -- its result, by the room alone
  result_same : (one other : List ℕ) → length one ≡ length other → (write_skin f bytes buffers one).result ≡ (write_skin f bytes buffers other).result
  unfolding write_skin exported
  result_same one other e = rw e (go (eqb ran.code 0) (eqb (verdict (length other)).code 0))
    where
      go : (runs writes : Bool) → (answer runs writes (verdict (length other)) one).result ≡ (answer runs writes (verdict (length other)) other).result
      go false writes = refl
      go true false = refl
      go true true = refl

  module _ (file : List ℕ) where
    abbrev v : Verdict
    v = verdict (length file)

    -- a refusal leaves the file
    kept : (write_skin f bytes buffers file).result.code ≢ 0 → (write_skin f bytes buffers file).file ≡ file
    unfolding write_skin exported
    kept ne = go (eqb ran.code 0) refl (eqb v.code 0) ne
      where
        go : (runs : Bool) → eqb ran.code 0 ≡ runs → (writes : Bool) → (answer runs writes v file).result.code ≢ 0 → (answer runs writes v file).file ≡ file
        go false p writes ne = refl
        go true p false ne = refl
        go true p true ne = absurd (ne (eqb-true ran.code 0 p))

    -- code 0: the job is run, its file is tested, and written
    pub record Wrote : Type 0 where
      pub tested : v.code ≡ 0
      pub is : write_skin f bytes buffers file ≡ record { result = ran; file = written (skin_file (job_of f bytes)) file }

    wrote : (write_skin f bytes buffers file).result.code ≡ 0 → Wrote
    unfolding write_skin exported unwritten
    wrote z = go (eqb ran.code 0) refl (eqb v.code 0) refl z
      where
        go : (runs : Bool) → eqb ran.code 0 ≡ runs → (writes : Bool) → eqb v.code 0 ≡ writes → (answer runs writes v file).result.code ≡ 0 → Wrote
        go false p writes q z = absurd (not_both (eq-eqb ran.code 0 z) p)
        go true p false q z = absurd (not_both (eq-eqb v.code 0 z) q)
        go true p true q z = record { tested = eqb-true v.code 0 q; is = rw (p, q) }

    -- its job has points
    on : v.code ≡ 0 → has_points f (header_of bytes) ≡ true
    unfolding file_tests given found
    on z =
        is_true (has_points f (header_of bytes)) (λ off.
        let at_20 : v ≡ record { code = 20; place = 0 } = match_here 20 _ _ 0 (rw off) in
        omega (arith, ap (λ (x : Verdict). x.code) at_20))

-- ---- how long its file is

module _ (bytes : List ℕ) where
  abbrev count : ℕ
  count = length (outward_skin (job_of track bytes))

  corners_long : (at : ℕ → Point) → facets_of (corners_of at (outward_skin (job_of track bytes))) ≡ count
  unfolding facets_of corners_of
  corners_long at =
      let t = (job_of track bytes).table in
      let points = (job_of track bytes).points in
      omega (
        arith,
        three_units at (flatten (outward_skin (job_of track bytes))),
        skin_words t (inside_in (final_of (job_of track bytes))) (triangle_as t true points) (three_each t true points (job_corners track bytes)),
      )

  -- the points of a job that has points
  points_are : has_points track (header_of bytes) ≡ true → (at : ℕ → Point) × ((job_of track bytes).points ≡ some at)
  unfolding job_of points_of
  points_are on = (point_in (section bytes (points_at track (header_of bytes)) (point_bytes track (header_of bytes))), rw on)

  skin_long : has_points track (header_of bytes) ≡ true → length (skin_file (job_of track bytes)) ≡ file_length count
  unfolding skin_file
  skin_long on =
      let (at, e) = points_are on in
      subst (λ (o : Option (ℕ → Point)). length {A = ℕ} (elim o [ some at ↦ file_of (corners_of at (outward_skin (job_of track bytes))) | none ↦ [] ]) ≡ file_length count) (sym e)
      (file_length_lem (corners_of at (outward_skin (job_of track bytes))) ∙ ap file_length (corners_long at))

-- ---- what is said of each answer

-- no refusal has code 0
pub unwritten_code : (e : Unwritten) → (verdict_of e).code ≢ 0
unwritten_code (Run e) = refusal_code e
unwritten_code NoPoints = λ z. omega arith
unwritten_code Room = λ z. omega arith

module _ (job file : List ℕ) (room : 204884 ≡ length file) {o : Outcome} {left : Lent} {after : List ℕ}
    (is : told o left after ≡ write_skin track job (lent (replicate 1024 0) (replicate 2048 0) (replicate 12288 0) (replicate 10240 0)) file) where
  here : told o left after ≡ write_skin track job zeros file
  unfolding zeros
  here = is

  answer_is : result_of o left ≡ skin_answer job
  unfolding skin_answer
  answer_is =
      ap (λ (e : Exported). e.result) here
      ∙ result_same track job zeros file (replicate (file_length most_facets) 0) (omega (arith, length-replicate {A = ℕ} 204884 0))

  pub job_refusal : o.code ≢ 0 → {out : List ℕ} {size : ℕ} {no : Bool} → Says (line word_refused (o.code ∷ o.place ∷ [])) true after size no out
      → Says (skin_said job) (skin_refused job) file size no out
  unfolding skin_said skin_refused refused_text
  job_refusal ne {out} {size} {no} s =
      let as_was : after ≡ file = ap (λ (e : Exported). e.file) here ∙ kept track job zeros file (λ z. ne (ap (λ (e : Exported). e.result.code) here ∙ z)) in
      rw (← answer_is, ne_eqb o.code 0 ne) (subst (λ (b : List ℕ). Says (line word_refused (o.code ∷ o.place ∷ [])) true b size no out) as_was s)

  module _ (z : o.code ≡ 0) where
    its : Wrote track job zeros file
    its = wrote track job zeros file (sym (ap (λ (e : Exported). e.result.code) here) ∙ z)

    run_is : result_of o left ≡ run track job zeros
    run_is = ap (λ (e : Exported). e.result) (here ∙ its.is)

    pub few : o.triangles ≤ most_facets
    few = omega (arith, ap (λ (r : Result). r.triangles) run_is, triangles_small track job zeros refl)

    pub job_file : {size : ℕ} → size ≡ file_length o.triangles → Says (skin_said job) (skin_refused job) file size false after
    unfolding skin_said skin_refused
    job_file e =
        let long = skin_long job (on track job zeros file its.tested) in
        rw (← answer_is, z) (record {
          size_is = e ∙ ap file_length (triangles_told job zeros run_is z) ∙ sym long;
          no_is = refl;
          after_is = ap (λ (e : Exported). e.file) (here ∙ its.is);
        })

-- ---- an input that is longer than any job

-- the answer to a job whose run is refused is the run's
run_refusal : (f : Form) (bytes : List ℕ) (buffers : Lent) (file : List ℕ) → (run f bytes buffers).code ≢ 0 → (write_skin f bytes buffers file).result ≡ run f bytes buffers
unfolding write_skin
run_refusal f bytes buffers file ne = rw (ne_eqb (run f bytes buffers).code 0 ne)

pub skin_enough : (n : ℕ) (input : List ℕ) → 65536 ≤ n → n ≤ length input → skin_said (take n input) ≡ skin_said input
unfolding skin_said skin_refused skin_answer
skin_enough n input large long =
    let lent_file = replicate {A = ℕ} (file_length most_facets) 0 in
    let front = run_refusal track (take n input) zeros lent_file (long_code_lem (take n input) (front_long n input large long) zeros) ∙ run_enough n input large long zeros in
    let whole = run_refusal track input zeros lent_file (long_code_lem input (omega arith) zeros) in
    rw (front, whole, ne_eqb (run track input zeros).code 0 (long_code_lem input (omega arith) zeros))
