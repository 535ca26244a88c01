use Rattle.std.proofs.Common.{refl, arith}
use Rattle.rings.specs.Tested.{marked_of}
use Rattle.rings.specs.Follow.{not_landed, ring_edge, ring_few, ring_more, ring_ends, turn_fails}
use Rattle.rings.proofs.around.Around.follow.Goals as goal

pub returns-in_default : goal.returns-in_default
returns-in_default c =
    turn_fails (marked_of c.args.self.marked.table.tested c.args.self.marked.tested).closed refl (ring_edge (marked_of c.args.self.marked.table.tested c.args.self.marked.tested).closed refl c.loop-met.invariant c.loop-met-test.true) (not_landed _ _ _ _ _ _ _ c.in_default.not-Some c.turn_at.ensures)

pub overflow_add-met : goal.overflow_add-met
overflow_add-met c = omega (arith, ring_few (marked_of c.args.self.marked.table.tested c.args.self.marked.tested).closed refl c.loop-met.invariant c.loop-met-test.true (rw c.in-Some.is at c.turn_at.ensures) refl, (marked_of c.args.self.marked.table.tested c.args.self.marked.tested).few)

pub loop-met-smaller : goal.loop-met-smaller
loop-met-smaller c = omega (arith, ring_few (marked_of c.args.self.marked.table.tested c.args.self.marked.tested).closed refl c.loop-met.invariant c.loop-met-test.true (rw c.in-Some.is at c.turn_at.ensures) refl)

pub loop-met-preserved : goal.loop-met-preserved
loop-met-preserved c = ring_more (marked_of c.args.self.marked.table.tested c.args.self.marked.tested).closed refl c.loop-met.invariant c.loop-met-test.true (rw c.in-Some.is at c.turn_at.ensures) refl

pub returns : goal.returns
returns c = ring_ends (marked_of c.args.self.marked.table.tested c.args.self.marked.tested).closed refl c.loop-met.invariant c.loop-met-test.false c.requires.1
