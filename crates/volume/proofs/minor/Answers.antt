use Rattle.volume.specs.Bound.{held, sub_fits, sub_held, mul_held}
use Rattle.volume.proofs.minor.Goals as goal

pub overflow_sub-result : goal.overflow_sub-result
overflow_sub-result c = let (a, b, d, e) = c.requires in sub_fits (mul_held (held a tt) (held e tt) tt) (mul_held (held b tt) (held d tt) tt) tt

pub returns : goal.returns
returns c = let (a, b, d, e) = c.requires in sub_held (mul_held (held a tt) (held e tt) tt) (mul_held (held b tt) (held d tt) tt) tt
