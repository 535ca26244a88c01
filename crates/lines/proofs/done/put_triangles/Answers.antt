use Rattle.std.proofs.Common.{rules}
use Rattle.lines.specs.Listing.{triangle_line, triangle_lines}
use Rattle.lines.proofs.done.put_triangles.Goals as goal

pub returns : goal.returns
unfolding triangle_lines
returns c = (c.put_each.ensures.texts (triangle_line c.args.triangles.now) (λ k p p' put. search rules), c.put_each.ensures.few)
