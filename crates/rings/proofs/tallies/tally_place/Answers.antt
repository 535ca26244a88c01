use Rattle.std.proofs.Common.{arith, ap, not}
use Rattle.rings.specs.Tested.{marked_of}
use Rattle.rings.specs.Tallies.{place_marked, face_fits, shown_side_off, shown_both, tallies_pass, tallies_meet, room_one, room_two, room_three}
use Rattle.rings.proofs.tallies.tally_place.Goals as goal

pub is_between-requires : goal.is_between-requires
is_between-requires c = let marked = marked_of c.args.marked.table.tested c.args.marked.tested in place_marked marked c.requires.0

pub returns-then-not-is_between : goal.returns-then-not-is_between
returns-then-not-is_between c =
    let marked = marked_of c.args.marked.table.tested c.args.marked.tested in
    tallies_pass c.requires.2 (shown_side_off marked c.requires.0 c.is_between.ensures (ap not c.if-not-is_between.true))

pub meet-requires : goal.meet-requires
meet-requires c =
    let marked = marked_of c.args.marked.table.tested c.args.marked.tested in
    let fits = face_fits marked c.requires.0 c.face-f.ensures in
    (omega (arith, fits.0, fits.1, fits.2), omega (arith, marked.ground.few, c.requires.0), omega (arith, room_one c.requires.2 fits, marked.ground.few, c.requires.0))

pub meet-requires-2 : goal.meet-requires-2
meet-requires-2 c =
    let marked = marked_of c.args.marked.table.tested c.args.marked.tested in
    let fits = face_fits marked c.requires.0 c.face-f.ensures in
    (omega (arith, fits.1, fits.2), omega (arith, marked.ground.few, c.requires.0), rw c.meet.ensures (omega (arith, room_two c.requires.2 fits, marked.ground.few, c.requires.0)))

pub meet-requires-3 : goal.meet-requires-3
meet-requires-3 c =
    let marked = marked_of c.args.marked.table.tested c.args.marked.tested in
    let fits = face_fits marked c.requires.0 c.face-f.ensures in
    (fits.2, omega (arith, marked.ground.few, c.requires.0), rw (c.meet-2.ensures, c.meet.ensures) (omega (arith, room_three c.requires.2 fits, marked.ground.few, c.requires.0)))

pub returns : goal.returns
returns c =
    let marked = marked_of c.args.marked.table.tested c.args.marked.tested in
    let fits = face_fits marked c.requires.0 c.face-f.ensures in
    rw (c.meet-3.ensures, c.meet-2.ensures, c.meet.ensures)
    (tallies_meet c.requires.2 fits (shown_both marked c.requires.0 c.face-f.ensures c.requires.1 c.is_between.ensures (ap not c.if-not-is_between.false)))
