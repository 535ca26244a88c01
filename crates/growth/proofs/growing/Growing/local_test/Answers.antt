use Rattle.std.proofs.Common.{rules, ◌∙◌}
use Rattle.growth.specs.Cases.{case_none, case_one, case_two, case_more}
use Rattle.growth.specs.Tested.{area_of}
use Rattle.tallies.specs.Area.{area_ground}
use Rattle.growth.proofs.growing.Growing.local_test.Goals as goal

pub vertices_free-requires : goal.vertices_free-requires
vertices_free-requires c = ((_, area_of c.args.self.tested), c.requires)

pub vertex_free-requires : goal.vertex_free-requires
vertex_free-requires c = ((_, area_of c.args.self.tested), c.requires, (c.left_out-skin.ensures.passes (search rules)).0)

pub returns-in-0 : goal.returns-in-0
returns-in-0 c =
    let area = area_of c.args.self.tested in
    c.unless_free.ensures ∙ case_none (area_ground area) _ _ _ c.requires (rw (c.closed-closed.ensures.1, c.closed-closed.ensures.2) at c.left_out-skin.ensures) c.in-0.is (c.vertices_free.ensures _ area)

pub returns-in-1 : goal.returns-in-1
returns-in-1 c =
    let area = area_of c.args.self.tested in
    c.unless_free-in-1.ensures ∙ case_one (area_ground area) _ _ _ c.requires (rw (c.closed-closed.ensures.1, c.closed-closed.ensures.2) at c.left_out-skin.ensures) c.in-1.is (c.vertex_free.ensures _ area)

pub returns-in-2 : goal.returns-in-2
returns-in-2 c =
    let area = area_of c.args.self.tested in
    c.unless_free-in-2.ensures ∙ case_two (area_ground area) _ _ _ c.requires (rw (c.closed-closed.ensures.1, c.closed-closed.ensures.2) at c.left_out-skin.ensures) c.in-2.is (rw (c.closed-closed.ensures.0, c.closed-closed.ensures.1, c.closed-closed.ensures.2) at c.edge_free.ensures)

pub returns-in_default : goal.returns-in_default
returns-in_default c =
    case_more (area_ground (area_of c.args.self.tested)) _ _ _ c.requires (rw (c.closed-closed.ensures.1, c.closed-closed.ensures.2) at c.left_out-skin.ensures) (search rules) (search rules) (search rules)
