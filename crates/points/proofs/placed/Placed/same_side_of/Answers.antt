use Rattle.points.specs.Sides.{side_at}
use Rattle.rules.specs.Outward.{product}
use Rattle.volume.specs.Bound.{back}
use Rattle.points.proofs.placed.Placed.same_side_of.Goals as goal

pub returns : goal.returns
unfolding side_at product
returns c =
    let own = c.volume.ensures in
    let far = c.volume-2.ensures in
    rw (
      c.same_sign.ensures,
      back own.within tt,
      back far.within tt,
      own.is,
      far.is,
      c.point_at-a.ensures.is,
      c.point_at-b.ensures.is,
      c.point_at-c.ensures.is,
      c.point_at.ensures.is,
      c.point_at-2.ensures.is,
    )
