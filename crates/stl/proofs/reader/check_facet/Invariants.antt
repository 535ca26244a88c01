use Rattle.std.proofs.Common.{◌≡◌, ◌*◌}
use Rattle.std.proofs.Math.Option.{none}
use Rattle.rules.specs.Below.{lowest}
use Rattle.stl.specs.Faults.{off}
use Rattle.stl.proofs.reader.check_facet.Given as goal

abbrev pub invariant-loop-corner : goal.invariant-loop-corner
invariant-loop-corner l = lowest (3 * l.corner) (off l.file l.facet) ≡ none
