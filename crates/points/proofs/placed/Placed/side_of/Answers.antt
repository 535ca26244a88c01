use Rattle.points.specs.Sides.{side_at}
use Rattle.rules.specs.Outward.{product}
use Rattle.volume.specs.Bound.{again, restated}
use Rattle.points.proofs.placed.Placed.side_of.Goals as goal

pub returns : goal.returns
unfolding side_at product
returns c =
    again (restated c.volume.ensures (cc (
      c.point_at.ensures.is,
      c.point_at-2.ensures.is,
      c.point_at-3.ensures.is,
      c.point_at-4.ensures.is,
    ))) tt
