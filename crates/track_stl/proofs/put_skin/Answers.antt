use Rattle.std.proofs.Common.{ap, ◌∙◌, true, List, ℕ}
use Rattle.rules.specs.Job.{written}
use Rattle.track_stl.specs.Ran.{outward_told, ground, grid, mark_each, list_room, skin_is, asked_is, file_is}
use Rattle.points.specs.Tested.{grid_tested}
use Rattle.table.specs.Tested.{tested_of}
use Rattle.track_stl.proofs.put_skin.Goals as goal

pub invariant_of-table : goal.invariant_of-table
invariant_of-table c = record { tested = (tested_of (ground c.requires.0 c.requires.1 c.rows_at-rows_at.ensures c.marks_at-marks_at.ensures c.points_at-points_at.ensures)).0 }

pub invariant_of-placed : goal.invariant_of-placed
invariant_of-placed c =
    let ran = c.requires.0 in
    let on = c.requires.1 in
    let rows = c.rows_at-rows_at.ensures in
    let marks = c.marks_at-marks_at.ensures in
    let points = c.points_at-points_at.ensures in
    record { tested = grid_tested _ (tested_of (ground ran on rows marks points)).1 (grid ran on rows marks points) }

pub put_listed-requires : goal.put_listed-requires
put_listed-requires c =
    let ran = c.requires.0 in
    let on = c.requires.1 in
    let rows = c.rows_at-rows_at.ensures in
    let marks = c.marks_at-marks_at.ensures in
    let points = c.points_at-points_at.ensures in (
      mark_each ran on rows marks points,
      list_room ran on rows marks points,
      asked_is ran on rows marks points (c.asks_outward.ensures ∙ outward_told ran),
      rw (skin_is ran on rows marks points true) c.requires.2,
    )

pub returns : goal.returns
returns c =
    let (kept, written-file) = c.put_listed.ensures in
    (kept, written-file ∙ ap (λ (x : List ℕ). written x c.args.file.now) (file_is c.requires.0 c.requires.1 c.rows_at-rows_at.ensures c.marks_at-marks_at.ensures c.points_at-points_at.ensures))
