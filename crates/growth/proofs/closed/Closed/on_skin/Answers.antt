use Rattle.growth.specs.Around.{ground_surrounds, corner_asked}
use Rattle.growth.specs.Tested.{closed_of}
use Rattle.growth.proofs.closed.Closed.on_skin.Goals as goal

pub is_between-requires : goal.is_between-requires
is_between-requires c =
    let ((_, on_ground, _), each) = closed_of _ c.args.self.table.tested c.args.self.tested in
    corner_asked (ground_surrounds _ _ on_ground each c.requires.0) _ c.requires.1
