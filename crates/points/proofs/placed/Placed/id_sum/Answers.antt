use Rattle.std.proofs.Common.{arith}
use Rattle.points.specs.Sides.{id_sum}
use Rattle.points.specs.Sides.{sum_fits}
use Rattle.table.specs.Tested.{ground_of}
use Rattle.points.proofs.placed.Placed.id_sum.Goals as goal

pub overflow_add-result : goal.overflow_add-result
unfolding id_sum
overflow_add-result c = omega (arith, sum_fits (ground_of c.args.self.table.tested c.args.self.tested.0) c.args.self.tested.1 _ c.requires)

pub overflow_add-result-2 : goal.overflow_add-result-2
unfolding id_sum
overflow_add-result-2 c = omega (arith, sum_fits (ground_of c.args.self.table.tested c.args.self.tested.0) c.args.self.tested.1 _ c.requires)

pub overflow_add-result-3 : goal.overflow_add-result-3
unfolding id_sum
overflow_add-result-3 c = omega (arith, sum_fits (ground_of c.args.self.table.tested c.args.self.tested.0) c.args.self.tested.1 _ c.requires)

pub returns : goal.returns
unfolding id_sum
returns c = omega arith
