use Rattle.std.proofs.Common.{arith}
use Rattle.growth.specs.Tested.{area_of, closed_tested}
use Rattle.tallies.specs.Area.{area_closed}
use Rattle.growth.proofs.growing.Growing.closed.Goals as goal

pub invariant_of-result : goal.invariant_of-result
invariant_of-result c =
    let area = area_of c.args.self.tested in
    record { tested = (closed_tested _ (area_closed area, omega (arith, area.each))).1 }
