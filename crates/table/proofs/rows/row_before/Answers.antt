use Rattle.rules.specs.Below.{any, all}
use Rattle.rules.specs.Table.{before}
use Rattle.table.proofs.rows.row_before.Goals as goal

pub returns : goal.returns
unfolding before any all
returns c = rw (← c.id_at-8.ensures, ← c.id_at-7.ensures, ← c.id_at-6.ensures, ← c.id_at-5.ensures, ← c.id_at-4.ensures, ← c.id_at-3.ensures, ← c.id_at-2.ensures, ← c.id_at.ensures) c.four_before.ensures
