use Rattle.std.proofs.Common.{rules, ◌≡◌, true, sym, ◌∙◌, not, ◌<◌, zero-le, arith}
use Rattle.rings.specs.InTurn.{serves_in_turn}
use Rattle.rings.specs.Follow.{RingsBelow, ringless_is}
use Rattle.rules.specs.Skin.{one_ring, ringless}
use Rattle.rules.specs.Laws.Below.{lowest_same}
use Rattle.rules.specs.Proposals.{inside_in}
use Rattle.table.specs.Rows.{table_in}
use Rattle.values.specs.Searched.{lowest_found}
use Rattle.rings.proofs.first_ringless.Goals as goal

pub find-requires-clause-callable : goal.find-requires-clause-callable
find-requires-clause-callable c =
    serves_in_turn (λ v. one_ring (table_in c.args.marked.table.rows.now) (inside_in c.args.marked.marks.now) c.args.marked.ids v ≡ true) (λ x q k. search rules) (λ x a b told y e.
    let few : y.now < 1024 = omega (arith, b, e, c.args.marked.tested.3) in
    let below : RingsBelow (table_in c.args.marked.table.rows.now) (inside_in c.args.marked.marks.now) c.args.marked.ids y.now = λ w l. told w zero-le (omega (arith, l, e)) in
    let tallied = c.requires.each y.now few in
    search (rules, few, below, tallied))

pub returns : goal.returns
returns c =
    lowest_found _ _ _ (λ v. not (one_ring (table_in c.args.marked.table.rows.now) (inside_in c.args.marked.marks.now) c.args.marked.ids v)) (search rules) (λ k l. absurd (search rules)) c.find.ensures.ran (λ x q k. search rules) (λ x q k. search rules)
    ∙ sym (lowest_same c.args.marked.ids (ringless (table_in c.args.marked.table.rows.now) (inside_in c.args.marked.marks.now) c.args.marked.ids) (λ v. not (one_ring (table_in c.args.marked.table.rows.now) (inside_in c.args.marked.marks.now) c.args.marked.ids v)) (λ v l. ringless_is (table_in c.args.marked.table.rows.now) (inside_in c.args.marked.marks.now) c.args.marked.ids v l))
