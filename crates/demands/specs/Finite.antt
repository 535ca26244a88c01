-- Document 02 (ii) is kept: the skin is finite.
use Rattle.std.specs.Prelude.{◌≡◌, refl, ℕ, ◌*◌, length, take}
use Rattle.std.proofs.Common.{sym, ◌∙◌, subst}
use Rattle.std.proofs.Math.Path.{ap}
use mathlib.Core.List.{List, flatten}
use Rattle.std.proofs.Math.Seq.{take_at}
use Rattle.rules.specs.Skin.{triangle}
use Rattle.rules.specs.Outward.{triangle_as}
use Rattle.rules.specs.Proposals.{inside_in}
use Rattle.rules.specs.Job.{track, header_of, Job, job_of, standing, final_of, listed_of, Lent, written, run}
use Rattle.rules.specs.Laws.Lists.{Among, flatten_in}
use Rattle.rules.specs.Laws.Job.{job_corners}
use Rattle.rules.specs.Reading.Outer.{OuterAlike, one_outer}
use Rattle.rules.specs.Reading.Skin.{inside_reads}
use Rattle.rules.specs.Reading.Room.{skin_same_length, skin_listed, skin_words}
use Rattle.rules.specs.Reading.Listing.{finite_skin}
use Rattle.rules.specs.Reading.Outward.{three_each}
use Rattle.rules.proofs.Reading.Outward.{listed_ids}
use Rattle.manifold.specs.Jobs.{job_alike}
use Rattle.track.specs.Outcomes.{Outcome, result_of}
use Rattle.track.specs.Accepted.{job_accepted}
use Rattle.demands.specs.Demands.{Demand2, FiniteSkin}
use Rattle.demands.specs.Grown.{demand_2}

module _ (bytes : List ℕ) (before : Lent) {o : Outcome} {after : Lent} (ran : result_of o after ≡ run track bytes before) (zero_code : o.code ≡ 0) where
  abbrev job : Job
  job = job_of track bytes

  alike : (k : ℕ) → OuterAlike job.table (standing job k)
  alike = job_alike track bytes before refl (job_accepted bytes before ran zero_code)

  grown : Demand2 bytes before o after
  grown = demand_2 bytes before ran zero_code

  -- as many triangles are left as were counted
  listed_many : length (listed_of job) ≡ o.triangles
  listed_many = skin_same_length job.table (inside_in (final_of job)) _ ∙ sym grown.triangles_counted

  -- the front of triangles is the skin in the order asked for
  listed : take (3 * o.triangles) after.triangles ≡ flatten (listed_of job)
  unfolding written
  listed =
      ap (take (3 * o.triangles)) grown.triangles_left
      ∙ take_at (flatten (listed_of job)) _ _
      (skin_words job.table (inside_in (final_of job)) _ (three_each job.table job.outward job.points (job_corners track bytes)) ∙ ap (λ (n : ℕ). 3 * n) listed_many)

  pub skin_finite : FiniteSkin bytes before o after
  skin_finite = record {
    outer_alike = alike;
    no_infinite_vertex = λ k. finite_skin job.table (standing job k) (job_corners track bytes) (alike k);
    one_outer = λ k r c b. one_outer job.table (standing job k) (alike k) b;
    listed_finite = λ m.
        let t = job.table in
        let told = inside_reads (final_of job) in
        let (ids, i, zero) = flatten_in 0 (listed_of job) (subst (λ (xs : List ℕ). Among 0 xs) listed m) in
        let x = (skin_listed t (inside_in (final_of job)) (triangle_as t job.outward job.points) told ids).0 i in
        let rising = triangle t x.row x.corner in
        let stands = (skin_listed t (inside_in (final_of job)) (triangle t) told rising).1 (record {
          row = x.row;
          corner = x.corner;
          row_below = x.row_below;
          corner_below = x.corner_below;
          row_inside = x.row_inside;
          on_skin_lem = x.on_skin_lem;
          ids_are = refl;
        }) in
        finite_skin job.table (final_of job) (job_corners track bytes) (subst (OuterAlike job.table) (sym grown.ends) (alike (header_of bytes).proposals)) rising
        ((grown.listed_exactly rising).0 stands)
        (listed_ids t job.outward job.points (job_corners track bytes) x.row x.corner x.corner_below 0 (subst (λ (xs : List ℕ). Among 0 xs) x.ids_are zero));
  }
