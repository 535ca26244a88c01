-- Document 02 (iii) and (v) are kept: the skin in the order asked for.
use Rattle.std.specs.Prelude.{◌≡◌, refl, Bool, true, ℕ, ◌<◌, length, drop}
use Rattle.std.proofs.Common.{sym, ◌∙◌, subst, subst₂}
use Rattle.std.proofs.Math.Path.{ap}
use Rattle.std.proofs.Math.Option.{Option, some}
use mathlib.Core.List.{List, ◌++◌, flatten}
use Rattle.rules.specs.Skin.{skin_as}
use Rattle.rules.specs.Points.{Point}
use Rattle.rules.specs.Outward.{triangle_as}
use Rattle.rules.specs.Proposals.{inside_in}
use Rattle.rules.specs.Job.{track, header_of, Job, job_of, final_of, clean_with, listed_with, listed_of, Lent, written, run}
use Rattle.rules.specs.Stl.{outward_skin}
use Rattle.rules.specs.Laws.Count.{ExactlyOne}
use Rattle.rules.specs.Laws.Truth.{is_false}
use Rattle.rules.specs.Laws.Job.{job_corners}
use Rattle.rules.specs.Reading.Skin.{Inside, SkinTriangle}
use Rattle.rules.specs.Reading.Outer.{OuterAlike}
use Rattle.rules.specs.Reading.Room.{skin_same_length}
use Rattle.rules.specs.Reading.Outward.{listed_id, Passes, FacesOutward, rising_unless}
use Rattle.rules.specs.Reading.File.{outward_exactly}
use Rattle.rules.proofs.Reading.File.{outward_points}
use Rattle.rules.specs.Reading.Codes.{accepted_points}
use Rattle.manifold.proofs.Jobs.{job_every_step}
use Rattle.outward.proofs.Outward.{as_rising, outward_list, outward_words, faces, each_way}
use Rattle.track.specs.Outcomes.{Outcome, result_of}
use Rattle.track.specs.Accepted.{job_accepted, job_closed}
use Rattle.demands.specs.Demands.{Demand2, OutwardSkin}
use Rattle.demands.specs.Grown.{demand_2}
use Rattle.demands.specs.Finite.{skin_finite}

module _ (bytes : List ℕ) (before : Lent) {o : Outcome} {after : Lent} (ran : result_of o after ≡ run track bytes before) (zero_code : o.code ≡ 0) where
  abbrev job : Job
  job = job_of track bytes

  four : job.table.corners ≡ 4
  four = job_corners track bytes

  grown : Demand2 bytes before o after
  grown = demand_2 bytes before ran zero_code

  -- what the final marks keep
  alike : OuterAlike job.table (final_of job)
  alike = subst (OuterAlike job.table) (sym grown.ends) ((skin_finite bytes before ran zero_code).outer_alike (header_of bytes).proposals)

  clean_end : clean_with job (final_of job) ≡ true
  clean_end = ap (clean_with job) grown.ends ∙ job_every_step track bytes before refl (job_accepted bytes before ran zero_code) (header_of bytes).proposals

  -- where there are points: words that begin with the outward skin, whether it was asked for or not
  module _ (at : ℕ → Point) (is : job.points ≡ some at) (words rest : List ℕ) (words_are : words ≡ flatten (outward_skin job) ++ rest) where
    abbrev list : List (List ℕ)
    list = outward_list job.table at (final_of job)

    list_is : outward_skin job ≡ list
    list_is = ap (λ (points : Option (ℕ → Point)). skin_as job.table (inside_in (final_of job)) (triangle_as job.table true points)) is

    many : length list ≡ o.triangles
    many = skin_same_length job.table (inside_in (final_of job)) _ ∙ sym grown.triangles_counted

    begin : words ≡ outward_words job.table at (final_of job) rest
    begin = words_are ∙ ap (λ (xs : List (List ℕ)). flatten xs ++ rest) list_is

    pub each_faces : (k : ℕ) → k < o.triangles
        → FacesOutward job.table at (Inside (final_of job)) (listed_id words k 0) (listed_id words k 1) (listed_id words k 2)
    each_faces k l =
        let (solid, _) = accepted_points track bytes before (job_accepted bytes before ran zero_code) at is in
        rw begin (faces job.table four (job_closed bytes before ran zero_code).paired at solid (final_of job) alike rest k (rw many l))

    pub each_passed : (x y w : ℕ) → SkinTriangle job.table (Inside (final_of job)) x y w
        → ExactlyOne o.triangles (Passes words x y) × ExactlyOne o.triangles (Passes words y x)
    each_passed x y w s =
        let (solid, apart) = accepted_points track bytes before (job_accepted bytes before ran zero_code) at is in
        subst₂ (λ (n : ℕ) (words : List ℕ). ExactlyOne n (Passes words x y) × ExactlyOne n (Passes words y x)) many (sym begin)
        (each_way job.table four (job_closed bytes before ran zero_code).paired at solid (final_of job) alike rest apart clean_end x y w s)

  -- the triangles left, where outward was asked for, and what stands behind the skin in them
  rest : List ℕ
  rest = drop (length (flatten (listed_of job))) before.triangles

  outward_left : job.outward ≡ true → after.triangles ≡ flatten (outward_skin job) ++ rest
  unfolding written rest
  outward_left on = grown.triangles_left ∙ ap (λ (b : Bool). flatten (listed_with b job (final_of job)) ++ rest) on

  pub skin_outward : OutwardSkin bytes before o after
  skin_outward = record {
    rising_unless = λ ne.
        rising_unless job.table job.outward job.points (is_false job.outward (λ on. ne ((outward_exactly track bytes).0 on))) (inside_in (final_of job));
    as_rising = as_rising job.table job.outward job.points four (inside_in (final_of job));
    faces_outward = λ one.
        let on = (outward_exactly track bytes).1 one in
        let (at, is) = outward_points track bytes on in
        (at, is, each_faces at is after.triangles rest (outward_left on));
    each_way = λ one.
        let on = (outward_exactly track bytes).1 one in
        let (at, is) = outward_points track bytes on in
        each_passed at is after.triangles rest (outward_left on);
  }
