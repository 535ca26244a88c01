use Rattle.std.proofs.Common.{refl, arith}
use Rattle.growth.specs.About.{start_touched, about_decides}
use Rattle.growth.specs.Tested.{closed_of}
use Rattle.round.specs.Edge.{near_at}
use Rattle.growth.proofs.closed.Closed.about_free.Goals as goal

pub on_other_side-requires-2 : goal.on_other_side-requires-2
on_other_side-requires-2 c =
    let ((_, on_ground, _), each) = closed_of _ c.args.self.table.tested c.args.self.tested in
    omega (arith, each, (near_at on_ground.paired refl c.requires.edge _ _ c.requires.near).0)

pub returns-then-on_other_side : goal.returns-then-on_other_side
returns-then-on_other_side c =
    let ((_, _, closed), _) = closed_of _ c.args.self.table.tested c.args.self.tested in
    start_touched closed refl c.requires _ _ c.on_other_side.ensures c.on_other_side-2.ensures c.if-on_other_side.true

pub returns : goal.returns
returns c =
    let ((_, _, closed), _) = closed_of _ c.args.self.table.tested c.args.self.tested in
    about_decides closed refl c.requires _ _ c.on_other_side.ensures c.on_other_side-2.ensures
    c.if-on_other_side.false c.turn-stop.ensures
