use Rattle.std.proofs.Common.{arith, rules}
use Rattle.table.specs.Faces.{corner_below}
use Rattle.table.specs.Rows.{id_fits}
use Rattle.skin_list.proofs.triangle_id.Goals as goal

pub id_at-requires : goal.id_at-requires
id_at-requires c = (search rules, rw c.corner_at.ensures (corner_below _ _ (search rules) (search rules)))

pub overflow_cast-result : goal.overflow_cast-result
overflow_cast-result c =
    omega (arith, c.id_at.ensures, id_fits c.args.rows.now (λ k. omega (arith, c.type_inv.rows k)) c.args.row c.corner_at.result (search rules) (rw c.corner_at.ensures (corner_below c.args.corner c.args.k (search rules) (search rules))))
