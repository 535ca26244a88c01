use Rattle.std.proofs.Common.{◌-◌}
use Rattle.rings.specs.Follow.{Ringing}
use Rattle.rules.specs.Proposals.{inside_in}
use Rattle.table.specs.Rows.{table_in}
use Rattle.rings.proofs.around.Around.follow.Given as goal

abbrev pub invariant-loop-met : goal.invariant-loop-met
invariant-loop-met l = Ringing (table_in l.self.marked.table.rows.now) (inside_in l.self.marked.marks.now) l.self.marked.ids l.self.vertex l.start.end l.at.end l.at.inner l.at.outer l.met

abbrev pub decreases-loop-met : goal.decreases-loop-met
decreases-loop-met l = l.self.marked.ids - l.met
