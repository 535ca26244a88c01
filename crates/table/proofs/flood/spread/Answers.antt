use Rattle.std.proofs.Common.{arith}
use Rattle.table.specs.Holders.{few_reached}
use Rattle.table.specs.Tested.{grounded_of}
use Rattle.table.proofs.flood.spread.Goals as goal

pub offset_bounds-flood-i : goal.offset_bounds-flood-i
offset_bounds-flood-i c = omega (arith, c.requires.1, few_reached (grounded_of c.args.table.tested).1 _ _ _ _ c.requires.2)

pub bounds-flood-i : goal.bounds-flood-i
bounds-flood-i c = omega (arith, c.requires.1, few_reached (grounded_of c.args.table.tested).1 _ _ _ _ c.requires.2)
