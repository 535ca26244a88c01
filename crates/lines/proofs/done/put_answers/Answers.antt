use Rattle.std.proofs.Common.{rules}
use Rattle.lines.specs.Listing.{answer_line, answer_lines}
use Rattle.lines.proofs.done.put_answers.Goals as goal

pub returns : goal.returns
unfolding answer_lines
returns c = (c.put_each.ensures.texts (answer_line c.args.answers.now) (λ k p p' put. search rules), c.put_each.ensures.few)
