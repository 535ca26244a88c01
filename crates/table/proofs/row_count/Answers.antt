use Rattle.std.proofs.Common.{refl}
use Rattle.table.specs.Rows.{rows_in}
use Rattle.table.proofs.row_count.Goals as goal

pub returns : goal.returns
unfolding rows_in
returns c = refl
