-- An outcome and the four buffers, as `rules` has them.
use Rattle.std.specs.Prelude.{◌≡◌, refl, List, ℕ, Result, Ok, Err}
use Rattle.rules.specs.First.{Verdict}
use Rattle.rules.specs.Job as rules
use Rattle.rules.specs.Job.{Lent}
use Rattle.track.specs.declared.refusal.Grown.{Grown}
use Rattle.track.specs.declared.refusal.Refusal.{Refusal}
use Rattle.track.specs.Refusals.{verdict_of}

-- the four buffers
abbrev pub lent : List ℕ → List ℕ → List ℕ → List ℕ → Lent
lent answers final_marks triangles work = record { answers = answers; final_marks = final_marks; triangles = triangles; work = work }

-- code and place as document 01 has them, and the numbers of proposals taken and of skin triangles
pub record Outcome : Type 0 where
  pub code : ℕ
  pub place : ℕ
  pub taken : ℕ
  pub triangles : ℕ

-- what was returned, and the buffers as left
abbrev pub result_of : Outcome → Lent → rules.Result
result_of o left = record { code = o.code; place = o.place; taken = o.taken; triangles = o.triangles; left = left }

-- a refusal has zero for both counts
abbrev pub refusal : Verdict → Outcome
refusal v = record { code = v.code; place = v.place; taken = 0; triangles = 0 }

-- what a run comes to: code 0 where it is accepted
abbrev pub outcome_of : Result Grown Refusal → Outcome
outcome_of (Ok grown) = record { code = 0; place = 0; taken = grown.taken; triangles = grown.triangles }
outcome_of (Err e) = refusal (verdict_of e)

-- the verdict alone
abbrev pub told : Result (Unit {0}) Refusal → Verdict
told (Ok _) = record { code = 0; place = 0 }
told (Err e) = verdict_of e

-- where it is no refusal, its code is 0
pub told_zero : {r : Result (Unit {0}) Refusal} → ((e : Refusal) → r ≡ Err e → ⊥) → (told r).code ≡ 0
told_zero {r = Ok _} none = refl
told_zero {r = Err e} none = absurd (none e refl)
