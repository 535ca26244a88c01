use Rattle.std.proofs.Common.{ap, ◌∙◌, ℕ, eqb}
use Rattle.growth.specs.Free.{none_free}
use Rattle.table.specs.Rows.{table_in}
use Rattle.growth.proofs.free.vertex_free.Goals as goal

pub returns : goal.returns
returns c = λ marks a. ap (λ (n : ℕ). eqb n 0) (c.others_at.ensures marks a) ∙ rw c.id_at.ensures (none_free (table_in _) _ _ _)
