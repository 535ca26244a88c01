-- What word 7 of the job file says: whether there are points.
use Rattle.std.proofs.Math.Path.{◌≡◌}
use Rattle.std.specs.Prelude.{◌↔◌, true, List}
use Rattle.std.proofs.Math.Option.{Option, some, none}
use Prim.Native.Nat.{ℕ}
use native.Mathlib.Omega.{arith}
use Rattle.rules.specs.Points.{Point, point_in}
use Rattle.rules.specs.Job.{Form, header_of, points_at, has_points, point_bytes, section, points_of, job_of}
use Rattle.rules.specs.Laws.Truth.{is_false}
use Rattle.rules.specs.Laws.Job.{outward_pointed}
use Rattle.rules.specs.Reading.Codes.{WithPoints, with_points_reads}

module _ (f : Form) (bytes : List ℕ) where
  -- there are points exactly if word 7 says so: for a track, if it is 1 or 3
  pub points_exactly : ((job_of f bytes).points ≡ none) ↔ (WithPoints f (header_of bytes) → ⊥)
  unfolding job_of points_of
  points_exactly =
      let h = header_of bytes in
      let held = point_in (section bytes (points_at f h) (point_bytes f h)) in
      (λ e is. some_none held (rw ((with_points_reads f h).1 is) at e), λ no. rw (is_false (has_points f h) (λ e. no ((with_points_reads f h).0 e))))
    where
      some_none : (at : ℕ → Point) → ◌≡◌ {A = Option (ℕ → Point)} (some at) none → ⊥
      some_none at e = let z : ◌≡◌ {A = ℕ} 0 1 = cc in omega arith

  -- where the skin is to be listed outward there are points
  pub outward_points : (job_of f bytes).outward ≡ true → (at : ℕ → Point) × ((job_of f bytes).points ≡ some at)
  unfolding job_of points_of
  outward_points e =
      let h = header_of bytes in
      (point_in (section bytes (points_at f h) (point_bytes f h)), rw (outward_pointed f h e))
