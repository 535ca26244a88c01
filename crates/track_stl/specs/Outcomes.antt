-- The code and place of each refusal of a file, and the outcome that an answer stands for.
use Rattle.std.specs.Prelude.{Result, Ok, Err}
use Rattle.rules.specs.First.{Verdict}
use Rattle.track.specs.declared.refusal.Grown.{Grown}
use Rattle.track.specs.Refusals as run
use Rattle.track.specs.Outcomes.{Outcome, refusal}
use Rattle.track_stl.specs.declared.unwritten.Unwritten.{Unwritten}
use Rattle.track_stl.specs.declared.unwritten.Unwritten.TheVariants.{Run, NoPoints, Room}

abbrev pub verdict_of : Unwritten → Verdict
verdict_of (Run e) = run.verdict_of e
verdict_of NoPoints = record { code = 20; place = 0 }
verdict_of Room = record { code = 21; place = 0 }

-- code 0 where the file is written
abbrev pub outcome_of : Result Grown Unwritten → Outcome
outcome_of (Ok grown) = record { code = 0; place = 0; taken = grown.taken; triangles = grown.triangles }
outcome_of (Err e) = refusal (verdict_of e)
