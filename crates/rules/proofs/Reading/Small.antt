-- How large what a run gives can be: a place is a row or a vertex, and there are at most P taken and 2N triangles.
use Rattle.std.specs.Prelude.{◌≡◌, refl, ◌≢◌, List, ℕ, ◌+◌, ◌-◌, ◌*◌, ◌≤◌}
use Rattle.std.proofs.Common.{sym, ◌∙◌, subst, ⊎_elim, arith}
use Rattle.std.proofs.Math.Path.{ap}
use Rattle.std.proofs.Math.Option.{Option, some, none}
use Rattle.rules.specs.Points.{Point}
use Rattle.rules.specs.Outward.{triangle_as}
use Rattle.rules.specs.Proposals.{inside_in, taken}
use Rattle.rules.specs.Job.{Form, header_of, most_rows, most_proposals, within_limits, job_of, answers_of, final_of, Lent, Result, accepted, run}
use Rattle.rules.specs.Laws.Truth.{same_or_not, not_both, is_true}
use Rattle.rules.specs.Laws.Proposals.{taken_few}
use Rattle.rules.specs.Laws.First.{Places, first_place}
use Rattle.rules.specs.Laws.Job.{job_ids, job_corners, job_rows}
use Rattle.rules.proofs.Laws.Job.{job_answers}
use Rattle.rules.specs.Reading.Rows.{First}
use Rattle.rules.specs.Reading.Room.{skin_same_length, at_most_2_n}
use Rattle.rules.specs.Reading.Codes.{WithinLimits, limits_read, Shown, section_conditions, job_conditions, run_accepted, run_code, run_code_below, refusal_keeps}
use Rattle.rules.proofs.Reading.Codes.{code_exactly, accepted_closed, accepted_header}

module _ (f : Form) (bytes : List ℕ) (lent : Lent) (four : f.corners ≡ 4) where
  module _ (z : (run f bytes lent).code ≡ 0) where
    is_accepted : run f bytes lent ≡ accepted (job_of f bytes) lent
    is_accepted = run_accepted f bytes lent (sym (run_code f bytes lent) ∙ z)

    accepted_place : (run f bytes lent).place ≡ 0
    unfolding accepted
    accepted_place = ap (λ (r : Result). r.place) is_accepted

    accepted_taken : (run f bytes lent).taken ≤ (header_of bytes).proposals
    unfolding accepted
    accepted_taken =
        rw is_accepted (subst (λ (n : ℕ). taken (answers_of (job_of f bytes)) ≤ n) (job_answers f bytes) (taken_few (answers_of (job_of f bytes))))

    accepted_triangles : (run f bytes lent).triangles ≤ 2 * (job_of f bytes).table.rows
    unfolding accepted
    accepted_triangles =
        let job = job_of f bytes in
        rw (is_accepted, skin_same_length job.table (inside_in (final_of job)) (triangle_as job.table job.outward job.points))
        (at_most_2_n job.table (inside_in (final_of job)) (accepted_closed f bytes lent z).paired (job_corners f bytes ∙ four))

  -- a place is 0, a row or a vertex; that there are few of these is code 2, which comes before
  places : Places (λ place. place ≤ most_rows) (job_conditions f bytes lent)
  places = (at_0, λ _. (at_0, λ off. (at_0, λ _. (at_0, λ _. held (limits off)))))
    where
      at_0 : {P : Type 0} (place : ℕ) → P × (place ≡ 0) → place ≤ most_rows
      at_0 place (_, e) = omega arith

      limits : ((place : ℕ) → (WithinLimits f (header_of bytes) → ⊥) × (place ≡ 0) → ⊥) → WithinLimits f (header_of bytes)
      limits off = (limits_read f (header_of bytes)).0 (is_true (within_limits f (header_of bytes)) (λ n. off 0 (λ w. not_both ((limits_read f (header_of bytes)).1 w) n, refl)))

      held : WithinLimits f (header_of bytes) → Places (λ place. place ≤ most_rows) (section_conditions (job_of f bytes))
      held w = (
        row,
        λ _. (
          row,
          λ _. (
            row,
            λ _. (
              row,
              λ _. (
                row,
                λ _. (
                  row,
                  λ _. (
                    row,
                    λ _. (
                      vertex,
                      λ _.
                          (with_points (job_of f bytes).points (λ at. vertex), λ _. (with_points (job_of f bytes).points (λ at. row), λ _. (with_points (job_of f bytes).points (λ at. row), λ _. tt))),
                    ),
                  ),
                ),
              ),
            ),
          ),
        ),
      )
        where
          row : {P : ℕ → Type 0} (place : ℕ) → First (job_of f bytes).table.rows P place → place ≤ most_rows
          row place x = omega (arith, x.below, job_rows f bytes, w.0.1.1)

          with_points : (points : Option (ℕ → Point)) {C : (ℕ → Point) → ℕ → Type 0} → ((at : ℕ → Point) (place : ℕ) → C at place → place ≤ most_rows) → (place : ℕ) → Shown points (λ at. C at place) → place ≤ most_rows
          with_points none small place x = absurd x
          with_points (some at) small place x = small at place x

          vertex : {P : ℕ → Type 0} (place : ℕ) → First (job_of f bytes).ids P place → place ≤ most_rows
          vertex place x = omega (arith, x.below, job_ids f bytes, w.0.0.1)

  pub place_small : (run f bytes lent).place ≤ most_rows
  place_small =
      ⊎_elim (λ (z : (run f bytes lent).code ≡ 0). rw (accepted_place z) (omega arith)) (λ ne.
      let i = (run f bytes lent).code - 1 in
      first_place (λ place. place ≤ most_rows) (job_conditions f bytes lent) places i (run f bytes lent).place
      ((code_exactly f bytes lent four i (run f bytes lent).place (omega (arith, run_code_below f bytes lent, ne))).0 (code_index (run f bytes lent).code ne, refl)))
      (same_or_not (run f bytes lent).code 0)
    where
      code_index : (code : ℕ) → code ≢ 0 → code ≡ 1 + (code - 1)
      code_index code ne = omega (arith, ne)

  pub taken_small : (run f bytes lent).taken ≤ most_proposals
  taken_small =
      ⊎_elim (λ (z : (run f bytes lent).code ≡ 0). omega (arith, accepted_taken z, (accepted_header f bytes lent z).0.1.1))
      (λ ne. omega (arith, (refusal_keeps f bytes lent ne).0)) (same_or_not (run f bytes lent).code 0)

  pub triangles_small : (run f bytes lent).triangles ≤ 2 * most_rows
  triangles_small =
      ⊎_elim (λ (z : (run f bytes lent).code ≡ 0). omega (arith, accepted_triangles z, job_rows f bytes, (accepted_header f bytes lent z).0.0.1.1))
      (λ ne. omega (arith, (refusal_keeps f bytes lent ne).1)) (same_or_not (run f bytes lent).code 0)
