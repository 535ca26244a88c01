use Rattle.std.proofs.Common.{not, T, nat_abs, sym, ap, ◌∙◌, subst, to_z-of_z, Float}
use Rattle.std.specs.Float.Ieee.{is_nan}
use Rattle.grid.specs.Exact.{exact}
use Rattle.grid.specs.Steps.{finite_number}
use Rattle.rules.specs.Points.{below_zero}
use Rattle.rules.specs.Stl.{metres, bits_of}
use Rattle.grid.proofs.bits_of.Goals as goal

pub float_to_bits-result : goal.float_to_bits-result
float_to_bits-result c =
    let u = c.args.units in
    subst (λ (x : Float). T (not (is_nan x))) (sym (c.metres_of.ensures ∙ ap metres (to_z-of_z c.ranges.units))) (finite_number (metres u) (below_zero u) (nat_abs u) 16 (exact u c.requires))

pub returns : goal.returns
unfolding bits_of
returns c = rw (c.metres_of.ensures ∙ ap metres (to_z-of_z c.ranges.units))
