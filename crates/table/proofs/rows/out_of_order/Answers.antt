use Rattle.std.proofs.Common.{rules, ◌≤◌, ◌<◌, lt-ltb, arith, refl, ◌≡◌}
use Rattle.rules.specs.Job.{not_after}
use Rattle.table.specs.Rows.{table_in}
use Rattle.values.specs.Searched.{lowest_found_from}
use Rattle.table.proofs.rows.out_of_order.Goals as goal

pub returns : goal.returns
returns c =
    lowest_found_from _ _ _ (not_after (table_in c.args.rows.now)) (search rules) (λ k l. let m : k < 1 = l in let e : k ≡ 0 = omega arith in rw e refl) c.find.ensures.ran
    (λ x q k l. let m : 1 ≤ x = l in rw (lt-ltb 0 x m) (search rules)) (λ x q k. (search rules, λ l. let m : 1 ≤ x = l in rw (lt-ltb 0 x m) (search rules)))
