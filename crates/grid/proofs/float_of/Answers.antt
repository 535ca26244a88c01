use Rattle.std.proofs.Common.{Bool, not, T, sym, ◌∙◌, subst, le-ltb, lt-ltb}
use Rattle.std.specs.Float.{binary32}
use Rattle.std.specs.Float.Ieee.{div, of_bits}
use Rattle.grid.specs.Steps.{is_nan_lem}
use lib.Ieee.Bits.{nan_bits_is, nan_bits_above}
use Rattle.grid.proofs.float_of.Goals as goal

pub returns-then-bits-gt2139095040 : goal.returns-then-bits-gt2139095040
unfolding div of_bits
returns-then-bits-gt2139095040 c = sym (is_nan_lem (of_bits binary32 c.args.bits) (sym (nan_bits_is binary32 c.args.bits) ∙ nan_bits_above binary32 c.args.bits ∙ lt-ltb _ _ c.if-bits-gt2139095040.true))

pub float_from_bits-result : goal.float_from_bits-result
float_from_bits-result c = subst (λ (b : Bool). T (not b)) (sym (nan_bits_above binary32 c.args.bits ∙ le-ltb _ _ c.if-bits-gt2139095040.false)) tt
