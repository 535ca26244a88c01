use Rattle.rules.specs.Points as R
use Rattle.volume.specs.Bound.{back}
use Rattle.volume.proofs.point_at.Goals as goal

pub returns : goal.returns
unfolding R.point_in
returns c =
    let x = c.coordinate_at.ensures in
    let y = c.coordinate_at-2.ensures in
    let z = c.coordinate_at-3.ensures in
    cc (x.is, y.is, z.is, back x.within tt, back y.within tt, back z.within tt)
