use Rattle.points.specs.Grid.{read_near}
use Rattle.points.specs.Tested.{placed_grid}
use Rattle.points.proofs.placed.Placed.point_at.Goals as goal

pub returns-clause-near : goal.returns-clause-near
returns-clause-near c = read_near (placed_grid c.args.self.tested.1 c.args.self.tested.2 c.args.self.tested.3) _ c.requires c.point_at.ensures
