use Rattle.rules.specs.Below.{all}
use Rattle.rules.specs.Table.{rising, ids_below}
use Rattle.table.proofs.rows.is_row.Goals as goal

pub returns : goal.returns
unfolding rising ids_below all
returns c = rw (← c.id_at-4.ensures, ← c.id_at-3.ensures, ← c.id_at-2.ensures, ← c.id_at.ensures) c.four_rise.ensures
