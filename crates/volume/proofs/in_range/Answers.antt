use Rattle.std.proofs.Common.{refl, ◌∙◌, negsuc, pos}
use Rattle.rules.specs.Points as R
use Rattle.volume.specs.Bound.{whole, le_told}
use Rattle.volume.proofs.in_range.Goals as goal

pub returns : goal.returns
unfolding R.in_range
returns c =
    let z = c.args.z in
    c.contains.ensures.value ∙ rw (c.new.ensures.start, c.new.ensures.end, c.new.ensures.exhausted, whole c.ranges.z, le_told (negsuc 1022) z, le_told z (pos 1023)) refl
