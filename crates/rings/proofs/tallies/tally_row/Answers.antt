use Rattle.std.proofs.Common.{ap, sym, ◌∙◌, not}
use Rattle.rings.specs.Tallies.{tallies_skip}
use borrow.Author.Tests.{not-true}
use Rattle.rings.proofs.tallies.tally_row.Goals as goal

pub returns-then-not-is_inside : goal.returns-then-not-is_inside
returns-then-not-is_inside c = tallies_skip _ (sym c.is_inside.ensures ∙ not-true c.is_inside.result (ap not c.if-not-is_inside.true)) c.requires.1
