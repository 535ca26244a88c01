use Rattle.std.proofs.Common.{◌∙◌, ap, rules, to_z-of_z}
use Rattle.std.specs.Int.{w16}
use Rattle.rules.specs.Stl.{unit_at}
use Rattle.stl.specs.Units.{units_said, units_said_lem}
use Rattle.stl.proofs.reader.unit_at.Goals as goal

pub returns : goal.returns
unfolding unit_at
returns c = to_z-of_z {w = w16} {z = c.unwrap_or.result} (search rules) ∙ c.unwrap_or.ensures ∙ ap units_said c.number_at.ensures ∙ units_said_lem _ _
