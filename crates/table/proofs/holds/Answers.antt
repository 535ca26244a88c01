use Rattle.rules.specs.Below.{any}
use Rattle.rules.specs.Table.{holds}
use Rattle.table.proofs.holds.Goals as goal

pub returns : goal.returns
unfolding holds any
returns c = rw (c.id_at.ensures, c.id_at-2.ensures, c.id_at-3.ensures, c.id_at-4.ensures)
