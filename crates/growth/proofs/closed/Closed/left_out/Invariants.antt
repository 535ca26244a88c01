use Rattle.growth.specs.Around.{Counted}
use Rattle.skin.specs.Between.{between}
use Rattle.growth.proofs.closed.Closed.left_out.Given as goal

abbrev pub invariant-loop-corner : goal.invariant-loop-corner
invariant-loop-corner l = Counted (between l.self.table.neighbours.now l.self.marks.now l.row) l.corner l.count l.last
