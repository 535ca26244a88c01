use Rattle.rings.specs.Tested.{marked_of}
use Rattle.rings.specs.Tallies.{place_marked, shown_by}
use Rattle.rings.proofs.tallies.is_shown.Goals as goal

pub is_between-side-requires : goal.is_between-side-requires
is_between-side-requires c = place_marked (marked_of c.args.marked.table.tested c.args.marked.tested) c.requires

pub returns : goal.returns
returns c =
    rw c.in_face.ensures (shown_by (marked_of c.args.marked.table.tested c.args.marked.tested) c.requires c.face-f.ensures c.is_inside-inner.ensures c.is_between-side.ensures _)
