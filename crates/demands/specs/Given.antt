-- Demand 1 is kept.
use Rattle.std.specs.Prelude.{◌≡◌, refl, ◌≢◌, List, ℕ}
use Rattle.std.proofs.Common.{sym, ap, ◌∙◌}
use Rattle.rules.specs.Job.{track, Lent, Result, run}
use Rattle.rules.specs.Reading.Codes.{run_code_below, refusal_keeps, early_refusal, late_refusal}
use Rattle.rules.proofs.Reading.Codes.{code_exactly, accepted_exactly}
use Rattle.track.specs.Outcomes.{Outcome, result_of}
use Rattle.demands.specs.Demands.{Demand1}

module _ (bytes : List ℕ) (before : Lent) {o : Outcome} {after : Lent} (ran : result_of o after ≡ run track bytes before) where
  pub code_is : o.code ≡ (run track bytes before).code
  code_is = ap (λ (r : Result). r.code) ran

  place_is : o.place ≡ (run track bytes before).place
  place_is = ap (λ (r : Result). r.place) ran

  pub left_is : after ≡ (run track bytes before).left
  left_is = ap (λ (r : Result). r.left) ran

  refuses : o.code ≢ 0 → (run track bytes before).code ≢ 0
  refuses ne z = ne (code_is ∙ z)

  pub demand_1 : Demand1 bytes before o after
  demand_1 = record {
    answered = rw code_is (run_code_below track bytes before);
    refused_exactly = λ i place l.
        let (forth, back) = code_exactly track bytes before refl i place l in
        (λ (e, f). forth (sym code_is ∙ e, sym place_is ∙ f), λ x. let (e, f) = back x in (code_is ∙ e, place_is ∙ f));
    run_exactly =
        let (forth, back) = accepted_exactly track bytes before refl in (λ e. forth (sym code_is ∙ e), λ off. code_is ∙ back off);
    refusal_leaves = λ ne.
        let (taken, triangles, a, f, t) = refusal_keeps track bytes before (refuses ne) in (
          ap (λ (r : Result). r.taken) ran ∙ taken,
          ap (λ (r : Result). r.triangles) ran ∙ triangles,
          ap (λ (l : Lent). l.answers) left_is ∙ a,
          ap (λ (l : Lent). l.final_marks) left_is ∙ f,
          ap (λ (l : Lent). l.triangles) left_is ∙ t,
        );
    work_kept = λ ne l. ap (λ (x : Lent). x.work) left_is ∙ early_refusal track bytes before (refuses ne) (rw (← code_is) l);
    work_cleared = λ l. ap (λ (x : Lent). x.work) left_is ∙ late_refusal track bytes before (rw (← code_is) l);
  }
