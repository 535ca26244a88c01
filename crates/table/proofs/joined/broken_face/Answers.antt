use Rattle.table.specs.Holders.{zero_scratch}
use Rattle.table.proofs.joined.broken_face.Goals as goal

pub broken_by-requires : goal.broken_by-requires
broken_by-requires c =
    (c.requires, c.thread.ensures, rw c.new-flood.ensures.0 (zero_scratch _ c.args.table.tested.0))
