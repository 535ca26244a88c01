use Rattle.std.proofs.Common.{arith}
use Rattle.lines.specs.Page.{puts_few}
use Rattle.lines.specs.Room.{triangle_put}
use Rattle.lines.proofs.Room.{triangle_few}
use Rattle.lines.proofs.done.put_triangle.Goals as goal

pub put_line-requires : goal.put_line-requires
put_line-requires c = omega (arith, c.requires.1, triangle_few c.id_at-a.ensures.1 c.id_at-b.ensures.1 c.id_at-c.ensures.1)

pub returns : goal.returns
returns c = (
  record { same = c.put_line.ensures.same; put = triangle_put _ _ c.id_at-a.ensures.0 c.id_at-b.ensures.0 c.id_at-c.ensures.0 c.put_line.ensures.put },
  puts_few 35 c.put_line.ensures (triangle_few c.id_at-a.ensures.1 c.id_at-b.ensures.1 c.id_at-c.ensures.1),
)
