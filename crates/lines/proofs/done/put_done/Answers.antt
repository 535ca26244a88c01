use Rattle.std.proofs.Common.{refl, arith, rules}
use Rattle.lines.specs.Listing.{done_text}
use Rattle.lines.specs.Page.{puts_more, puts_front}
use Rattle.lines.specs.Put.{put_kept}
use Rattle.lines.proofs.Room.{done_few}
use Rattle.lines.proofs.done.put_done.Goals as goal

pub put_line-requires : goal.put_line-requires
put_line-requires c =
    omega (arith, c.requires, done_few {a = c.args.proposals} {b = c.args.taken} (omega arith) (omega arith) {c = c.args.count} (omega arith))

pub put_answers-requires : goal.put_answers-requires
put_answers-requires c =
    (c.requires.0, c.requires.2, omega (arith, done_few {a = c.args.proposals} {b = c.args.taken} (omega arith) (omega arith) {c = c.args.count} (omega arith), c.put_line.ensures.put.behind, put_kept c.put_line.ensures.put))

pub put_triangles-requires : goal.put_triangles-requires
put_triangles-requires c =
    (c.requires.3, omega (arith, done_few {a = c.args.proposals} {b = c.args.taken} (omega arith) (omega arith) {c = c.args.count} (omega arith), c.put_line.ensures.put.behind, put_kept c.put_line.ensures.put, c.put_answers.ensures.1.0, c.put_answers.ensures.1.1))

pub returns : goal.returns
unfolding done_text
returns c = (
  puts_front (puts_more (puts_more c.put_line.ensures c.put_answers.ensures.0) c.put_triangles.ensures.0) refl refl (search rules),
  omega (arith, done_few {a = c.args.proposals} {b = c.args.taken} (omega arith) (omega arith) {c = c.args.count} (omega arith), c.put_line.ensures.put.behind, c.put_answers.ensures.1.0, c.put_triangles.ensures.1.0),
)
