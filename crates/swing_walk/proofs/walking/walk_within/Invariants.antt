use Rattle.std.proofs.Common.{◌≤◌}
use Rattle.swing_walk.specs.Walks.{turned_route, StandsAt, at_step}
use Rattle.swing_walk.proofs.walking.walk_within.Given as goal

abbrev pub invariant-loop-walked : goal.invariant-loop-walked
invariant-loop-walked g l = record {
  front_within : l.front_up ≤ l.walked;
  back_within : l.back_up ≤ l.walked;
  front : StandsAt (g.P.Partners.counts l.chains.front.partners) l.route (at_step l.route l.walked l.front_up) l.chains.front.tallies;
  back : StandsAt (g.P.Partners.counts l.chains.back.partners) (turned_route l.route) (at_step (turned_route l.route) l.walked l.back_up) l.chains.back.tallies;
}
