use Rattle.std.proofs.Common.{arith}
use Rattle.lines.specs.Lines.{line_length}
use Rattle.lines.specs.Listing.{line}
use Rattle.lines.specs.Page.{puts_more}
use Rattle.lines.specs.Put.{put_kept}
use Rattle.lines.proofs.text.Page.put_line.Goals as goal

pub put_word-requires : goal.put_word-requires
put_word-requires c = omega (arith, c.requires, line_length c.args.word.now c.args.numbers.now)

pub put_numbers-requires : goal.put_numbers-requires
put_numbers-requires c =
    omega (arith, c.requires, line_length c.args.word.now c.args.numbers.now, c.put_word.ensures.put.behind, put_kept c.put_word.ensures.put)

pub put_byte-requires : goal.put_byte-requires
put_byte-requires c =
    omega (arith, c.requires, line_length c.args.word.now c.args.numbers.now, c.put_word.ensures.put.behind, put_kept c.put_word.ensures.put, c.put_numbers.ensures.put.behind, put_kept c.put_numbers.ensures.put)

pub returns : goal.returns
unfolding line
returns c = puts_more (puts_more c.put_word.ensures c.put_numbers.ensures) c.put_byte.ensures
