use Rattle.std.proofs.Common.{arith}
use Rattle.lines.specs.Listing.{answer_line}
use Rattle.lines.specs.Page.{puts_few}
use Rattle.lines.proofs.Room.{answer_few}
use Rattle.lines.proofs.done.put_answer.Goals as goal

pub put_line-requires : goal.put_line-requires
unfolding answer_line
put_line-requires c =
    omega (arith, c.requires.2, answer_few c.args.answers.now c.args.k c.requires.0 (omega (arith, c.type_inv.answers c.args.k)))

pub returns : goal.returns
unfolding answer_line
returns c =
    (c.put_line.ensures, puts_few 12 c.put_line.ensures (answer_few c.args.answers.now c.args.k c.requires.0 (omega (arith, c.type_inv.answers c.args.k))))
