use Rattle.std.proofs.Common.{sym, rules}
use Rattle.points.specs.Sides.{outer_asked}
use Rattle.table.specs.Tested.{ground_of}
use Rattle.points.proofs.placed.Placed.is_outer.Goals as goal

pub returns : goal.returns
returns c = rw c.id_at.ensures (sym (outer_asked _ _ ((ground_of c.args.self.table.tested c.args.self.tested.0).paired.rising _ c.requires) (search rules)))
