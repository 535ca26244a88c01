use Rattle.std.proofs.Common.{sym, ◌∙◌}
use Rattle.table.specs.Rows.{table_in}
use Rattle.track.specs.Stages.{points_room, with_points, without_points}
use Rattle.track.proofs.look_at_points.Goals as goal

pub check_points-requires : goal.check_points-requires
check_points-requires c =
    let (below, few, long) = c.requires in
    (below, few, points_room c.args.h (table_in c.args.table.rows.now) c.args.points.now (sym c.has_points.ensures ∙ c.if-has_points.true) long)

pub returns-then-has_points : goal.returns-then-has_points
returns-then-has_points c = with_points _ _ _ (sym c.has_points.ensures ∙ c.if-has_points.true) c.check_points.ensures

pub returns : goal.returns
returns c = sym (without_points _ _ _ (sym c.has_points.ensures ∙ c.if-has_points.false))
