use Rattle.std.proofs.Common.{◌∙◌}
use Rattle.growth.specs.Free.{other_side_lem}
use Rattle.rules.specs.Cases.{other_side}
use Rattle.growth.proofs.free.on_other_side.Goals as goal

pub returns : goal.returns
unfolding other_side
returns c = other_side_lem c.is_inside.result c.args.adding ∙ rw c.is_inside.ensures
