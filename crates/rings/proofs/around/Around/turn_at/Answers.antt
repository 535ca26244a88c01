use Rattle.std.proofs.Common.{refl, sym, ◌∙◌, ap, not}
use Rattle.rings.specs.Tested.{marked_of}
use Rattle.rings.specs.Follow.{landed}
use Rattle.rings.specs.Sides.{between_near}
use Rattle.std.proofs.lemmas.Bool.{not-false}
use Rattle.rings.proofs.around.Around.turn_at.Goals as goal

pub turn-to-requires : goal.turn-to-requires
turn-to-requires c =
    let marked = marked_of c.args.self.marked.table.tested c.args.self.marked.tested in
    let (_, here) = c.requires in
    (here.differ.0, between_near marked.closed.paired refl here)

pub returns : goal.returns
returns c =
    let marked = marked_of c.args.self.marked.table.tested c.args.self.marked.tested in
    rw (c.onward-way.ensures.1, c.edge.ensures.0, c.edge.ensures.1) (landed marked.closed refl c.requires c.turn-to.ensures (sym (not-false c.is_two.result (ap not c.if-not-is_two.false)) ∙ c.is_two.ensures))
