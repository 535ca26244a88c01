use Rattle.volume.specs.Bound.{held, add_fits, mul_fits, add_held, mul_held}
use Rattle.volume.proofs.dot.Goals as goal

pub overflow_add-result : goal.overflow_add-result
overflow_add-result c =
    let ((p, q, r), (x, y, z)) = c.requires in
    add_fits (mul_held (held p tt) (held x tt) tt) (mul_held (held q tt) (held y tt) tt) tt

pub overflow_mul-result-3 : goal.overflow_mul-result-3
overflow_mul-result-3 c = let ((p, q, r), (x, y, z)) = c.requires in mul_fits (held r tt) (held z tt) tt

pub overflow_add-result-2 : goal.overflow_add-result-2
overflow_add-result-2 c =
    let ((p, q, r), (x, y, z)) = c.requires in
    add_fits (add_held (mul_held (held p tt) (held x tt) tt) (mul_held (held q tt) (held y tt) tt) tt) (mul_held (held r tt) (held z tt) tt) tt

pub returns : goal.returns
returns c =
    let ((p, q, r), (x, y, z)) = c.requires in
    add_held (add_held (mul_held (held p tt) (held x tt) tt) (mul_held (held q tt) (held y tt) tt) tt) (mul_held (held r tt) (held z tt) tt) tt
