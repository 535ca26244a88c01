use Rattle.rules.specs.Points as R
use Rattle.volume.specs.Bound.{back}
use Rattle.volume.proofs.from.Goals as goal

pub returns-clause-is : goal.returns-clause-is
unfolding R.from
returns-clause-is c =
    let (b, a) = c.requires in
    let x = c.apart.ensures in
    let y = c.apart-2.ensures in
    let z = c.apart-3.ensures in
    cc (
      back x.within tt,
      back y.within tt,
      back z.within tt,
      x.is,
      y.is,
      z.is,
      back b.x tt,
      back b.y tt,
      back b.z tt,
      back a.x tt,
      back a.y tt,
      back a.z tt,
    )
