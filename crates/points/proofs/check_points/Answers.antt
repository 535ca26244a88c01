use Rattle.points.specs.Placed.{on_grid_lem, point_found, flat_found, fold_found, all_placed}
use Rattle.values.specs.Places.{none_of}
use Rattle.points.proofs.check_points.Goals as goal

pub invariant_of-placed : goal.invariant_of-placed
invariant_of-placed c =
    let (below, few, room) = c.requires in
    record { tested = (below, few, room, (on_grid_lem c.off_grid.ensures (none_of c.in_default.not-Some) few room).on) }

pub returns-in-Some : goal.returns-in-Some
returns-in-Some c = point_found _ _ _ _ c.off_grid.ensures c.in-Some.is

pub returns-in-Some-flat_row : goal.returns-in-Some-flat_row
returns-in-Some-flat_row c =
    flat_found _ _ _ _ c.off_grid.ensures (none_of c.in_default.not-Some) _ c.flat_row.ensures c.in-Some-flat_row.is

pub returns-in-Some-folded_row : goal.returns-in-Some-folded_row
returns-in-Some-folded_row c =
    fold_found _ _ _ _ c.off_grid.ensures (none_of c.in_default.not-Some) _ c.flat_row.ensures (none_of c.in_default-flat_row.not-Some) _
    c.folded_row.ensures c.in-Some-folded_row.is

pub returns : goal.returns
returns c =
    all_placed _ _ _ _ c.off_grid.ensures (none_of c.in_default.not-Some) _ c.flat_row.ensures (none_of c.in_default-flat_row.not-Some) _
    c.folded_row.ensures (none_of c.in_default-folded_row.not-Some)
