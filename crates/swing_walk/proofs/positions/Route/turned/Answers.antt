use Rattle.swing_walk.specs.Walks.{turned_route}
use Rattle.swing_walk.proofs.Routes.{same_route}
use Rattle.swing_walk.proofs.positions.Route.turned.Goals as goal

pub returns : goal.returns
returns c = record { turned = same_route (turned_route c.args.self.now) _ _ _ _ c.copy.ensures.same c.copy-2.ensures.same }
