use Rattle.std.proofs.Common.{refl, sym, ◌∙◌, mod-lt, arith, lit<}
use Rattle.rings.specs.Tested.{marked_of}
use Rattle.rings.specs.Follow.{none_shown, start_row, start_edge}
use Rattle.rings.proofs.ring.is_ring.Goals as goal

pub returns-then-tally-eq0 : goal.returns-then-tally-eq0
returns-then-tally-eq0 c = let marked = marked_of c.args.marked.table.tested c.args.marked.tested in none_shown marked.closed refl _ _ (sym c.requires.1.counted ∙ c.if-tally-eq0.true)

pub face-requires : goal.face-requires
face-requires c =
    let marked = marked_of c.args.marked.table.tested c.args.marked.tested in
    (start_row marked.closed refl _ _ c.requires.1.counted c.requires.1.last c.if-tally-eq0.false, omega arith)

pub across-requires : goal.across-requires
across-requires c =
    let marked = marked_of c.args.marked.table.tested c.args.marked.tested in
    (start_row marked.closed refl _ _ c.requires.1.counted c.requires.1.last c.if-tally-eq0.false, mod-lt _ (lit< tt))

pub follow-requires : goal.follow-requires
follow-requires c =
    let marked = marked_of c.args.marked.table.tested c.args.marked.tested in
    let some = c.if-tally-eq0.false in
    (rw (c.first_end.ensures, c.face.ensures, c.across.ensures) (start_edge marked.closed refl _ _ c.requires.1.counted c.requires.1.last some), c.requires.1.counted)
