use Rattle.std.proofs.Common.{◌≡◌}
use Rattle.std.proofs.Math.Option.{none}
use Rattle.rules.specs.Below.{lowest}
use Rattle.rules.specs.Stl.{faulty}
use Rattle.stl.proofs.reader.look_through.Given as goal

abbrev pub invariant-loop-facet : goal.invariant-loop-facet
invariant-loop-facet l = lowest l.facet (faulty l.file) ≡ none
