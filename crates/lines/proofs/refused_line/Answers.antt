use Rattle.std.proofs.Common.{refl, ◌≤◌, length, arith, rules}
use Rattle.lines.specs.Listing.{line, word_refused}
use Rattle.lines.specs.Page.{puts_front}
use Rattle.lines.specs.Put.{put_front}
use Rattle.lines.proofs.Room.{refused_few}
use Rattle.lines.proofs.refused_line.Goals as goal

pub put_line-requires : goal.put_line-requires
put_line-requires c = omega (arith, c.requires, refused_few c.args.numbers.now (λ k. omega (arith, c.type_inv.numbers k)))

pub returns : goal.returns
returns c =
    let room : length (line word_refused c.args.numbers.now) ≤ length c.args.out.now
    = omega (arith, c.requires, refused_few c.args.numbers.now (λ k. omega (arith, c.type_inv.numbers k))) in
    put_front (puts_front c.put_line.ensures refl refl (search rules)) room
