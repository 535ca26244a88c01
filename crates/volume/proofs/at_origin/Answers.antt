use Rattle.std.proofs.Common.{sym, ◌∙◌}
use Rattle.std.proofs.Math.Bool.{and_assoc}
use Rattle.rules.specs.Points as R
use Rattle.volume.specs.Bound.{zero_equal}
use Rattle.volume.proofs.at_origin.Goals as goal

pub returns : goal.returns
unfolding R.at_origin
returns c =
    let p = c.args.p in
    c.eq.ensures ∙ rw (zero_equal p.x, zero_equal p.y, zero_equal p.z) (sym (and_assoc (R.is_zero p.x) (R.is_zero p.y) (R.is_zero p.z)))
