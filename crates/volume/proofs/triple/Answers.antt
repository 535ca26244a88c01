use Rattle.rules.specs.Points as R
use Rattle.volume.specs.Bound.{back, again, restated}
use Rattle.volume.proofs.triple.Goals as goal

pub returns : goal.returns
unfolding R.triple
returns c =
    let (u, v, w) = c.requires in
    let p = c.minor-p.ensures in
    let q = c.minor-q.ensures in
    let r = c.minor-r.ensures in
    again (restated c.dot.ensures (cc (
      back p.within tt,
      back q.within tt,
      back r.within tt,
      p.is,
      q.is,
      r.is,
      back u.x tt,
      back u.y tt,
      back u.z tt,
      back v.x tt,
      back v.y tt,
      back v.z tt,
      back w.x tt,
      back w.y tt,
      back w.z tt,
    ))) tt
