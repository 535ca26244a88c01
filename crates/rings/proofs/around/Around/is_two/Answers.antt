use Rattle.std.proofs.Common.{refl}
use Rattle.rings.specs.Tested.{marked_of}
use Rattle.rings.specs.Follow.{two_known, two_asked}
use Rattle.rings.specs.Sides.{between_near}
use Rattle.round.specs.Edge.{near_back}
use Rattle.rings.proofs.around.Around.is_two.Goals as goal

pub returns-then-from-self : goal.returns-then-from-self
returns-then-from-self c =
    two_known (marked_of c.args.self.marked.table.tested c.args.self.marked.tested).closed refl c.requires.0 (c.args.self.below _ c.if-from-self.true)

pub turn-without-requires : goal.turn-without-requires
turn-without-requires c =
    let marked = marked_of c.args.self.marked.table.tested c.args.self.marked.tested in
    let ((_, here), _) = c.requires in
    (here.differ.0, near_back marked.closed.paired refl here.differ.0 _ _ (between_near marked.closed.paired refl here))

pub returns : goal.returns
returns c =
    let given = c.requires in
    two_asked (marked_of c.args.self.marked.table.tested c.args.self.marked.tested).closed refl given.0 given.1 c.turn-without.ensures
