use Rattle.std.proofs.Common.{rules}
use Rattle.rules.specs.Points as R
use Rattle.volume.specs.Bound.{whole}
use Rattle.volume.proofs.on_grid.Goals as goal

pub returns : goal.returns
unfolding R.on_grid
returns c =
    let p = c.args.p in
    cc (
      c.in_range.ensures,
      c.in_range-2.ensures,
      c.in_range-3.ensures,
      whole {z = p.x} (search rules),
      whole {z = p.y} (search rules),
      whole {z = p.z} (search rules),
    )
