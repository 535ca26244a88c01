use Rattle.std.proofs.Common.{sym, ap, ◌∙◌}
use Rattle.rings.specs.Tested.{marks_tested}
use Rattle.rules.specs.First.{Verdict}
use Rattle.table.specs.Tested.{tested_of}
use Rattle.track.specs.Outcomes.{lent, told, told_zero}
use Rattle.track.specs.Refusals.{refusal_code}
use Rattle.track.specs.Stages.{the_marks, marks_refused, marks_accepted, on_grid_lem}
use Rattle.track.proofs.run_closed.Goals as goal

pub invariant_of-table : goal.invariant_of-table
invariant_of-table c = record { tested = (tested_of c.requires.ground).0 }

pub invariant_of-marked : goal.invariant_of-marked
invariant_of-marked c = record { tested = (marks_tested (the_marks c.requires)).1 }

pub returns-in-Err : goal.returns-in-Err
returns-in-Err c =
    marks_refused _ _ (lent _ _ _ _) (ap told (sym c.in-Err.is) ∙ c.look_at_marks_and_points.ensures) c.requires.work_room_lem (refusal_code _) c.clear.ensures

pub grow-requires : goal.grow-requires
grow-requires c =
    let r = c.requires in
    (r, on_grid_lem _ _ _ r.few_ids r.points_long (ap (λ (v : Verdict). v.code) (sym c.look_at_marks_and_points.ensures) ∙ told_zero c.in_default.not-Err))

pub returns : goal.returns
returns c =
    marks_accepted _ _ (lent _ _ _ _) c.look_at_marks_and_points.ensures (told_zero c.in_default.not-Err) c.grow.ensures
