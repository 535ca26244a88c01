use Rattle.std.proofs.Common.{eq-eqb}
use Rattle.rules.specs.Stl.{facets_of}
use Rattle.stl.proofs.writer.is_ill_counted.Goals as goal

pub returns-else-units-ne0 : goal.returns-else-units-ne0
unfolding facets_of
returns-else-units-ne0 c = rw (eq-eqb _ _ c.if-units-ne0.false)
