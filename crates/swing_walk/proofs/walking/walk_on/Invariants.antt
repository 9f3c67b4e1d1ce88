use Rattle.std.proofs.Common.{◌≡◌, ◌+◌, length}
use Rattle.swing_walk.specs.Walks.{turned_route, StandsAt, HasPassed}
use Rattle.swing_walk.proofs.walking.walk_on.Given as goal

abbrev pub invariant-loop-walked : goal.invariant-loop-walked
invariant-loop-walked g l = record {
  front_passed : HasPassed l.walked l.from_front l.route.falling;
  back_passed : HasPassed l.walked l.from_back l.route.rising;
  front : StandsAt (g.P.Partners.counts l.chains.front.partners) l.route l.from_front l.chains.front.tallies;
  back : StandsAt (g.P.Partners.counts l.chains.back.partners) (turned_route l.route) l.from_back l.chains.back.tallies;
  steps : l.steps ≡ length l.route.rising + length l.route.falling;
}
