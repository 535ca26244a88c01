use Rattle.lines.specs.Units.{ninth, not_ninth}
use Rattle.lines.proofs.facets.parting_behind.Goals as goal

pub returns-then-k-eq8 : goal.returns-then-k-eq8
returns-then-k-eq8 c = ninth _ c.if-k-eq8.true

pub returns-else-k-eq8 : goal.returns-else-k-eq8
returns-else-k-eq8 c = not_ninth _ c.if-k-eq8.false
