use Rattle.points.specs.Sides.{side_at}
use Rattle.rules.specs.Outward.{flat}
use Rattle.volume.specs.Bound.{back}
use Rattle.std.proofs.Common.{lit<}
use Rattle.table.specs.Tested.{ground_of}
use Rattle.points.proofs.placed.Placed.is_flat.Goals as goal

pub returns-then-is_outer : goal.returns-then-is_outer
unfolding flat
returns-then-is_outer c = rw (← c.is_outer.ensures, c.if-is_outer.true)

pub side_of-requires : goal.side_of-requires
side_of-requires c =
    let below = (ground_of c.args.self.table.tested c.args.self.tested.0).paired.below _ c.requires in (
      record {
        a = rw c.id_at.ensures (below 0 (lit< tt));
        b = rw c.id_at-2.ensures (below 1 (lit< tt));
        c = rw c.id_at-3.ensures (below 2 (lit< tt));
      },
      rw c.id_at-4.ensures (below 3 (lit< tt)),
    )

pub returns : goal.returns
unfolding flat side_at
returns c =
    let v = c.side_of.ensures in
    rw (
      ← c.is_outer.ensures,
      c.if-is_outer.false,
      ← c.id_at.ensures,
      ← c.id_at-2.ensures,
      ← c.id_at-3.ensures,
      ← c.id_at-4.ensures,
      ← v.is,
      c.is_zero.ensures,
      back v.within tt,
    )
