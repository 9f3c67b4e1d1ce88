use Rattle.std.proofs.Common.{◌≡◌, ◌+◌, ◌-◌, length, nat_le, Bool, arith, ap, subst}
use Rattle.swing_walk.specs.Walks.{at_step, StandsAt}
use Rattle.swing_walk.specs.declared.positions.Position.{Position}
use Rattle.swing_walk.proofs.Meeting.{both_last, looked}
use Rattle.swing_walk.proofs.walking.pass_within.Goals as goal

pub pass_next-requires-clause-next : goal.pass_next-requires-clause-next
pass_next-requires-clause-next g c =
    let falls : Bool = nat_le c.args.route.now.quota (c.at_below_limit-low.result.sum + c.at_below_limit-high.result.sum) in
    let at = c.at_step-position.ensures.at in
    rw at (looked falls (record { low = c.at_below_limit-low.result; high = c.at_below_limit-high.result; falls = falls }) c.args.route.now (at_step c.args.route.now c.args.walked c.args.up) (record {
      within = c.requires.stands.between.up_in;
      some = omega (arith, c.requires.some_rising, c.requires.up);
      low_is = λ _. c.at_below_limit-low.ensures.same;
      high_is = λ _. rw at at c.at_below_limit-high.ensures.same;
      test = both_last c.args.up (length c.args.route.now.rising) (length c.args.route.now.falling - c.args.walked + c.args.up) falls (omega (arith, c.requires.up, c.requires.some_rising)) (omega (arith, c.requires.some_falling));
    }))

pub returns : goal.returns
returns g c =
    let n = length c.args.route.now.falling in
    let after : Position = c.pass_next.result in
    let next = rw c.at_step-position.ensures.at at c.pass_next.ensures.next in
    let stands = c.pass_next.ensures.stands in
    let rest : after.rest ≡ n - (c.args.walked + 1) + after.up = omega (arith, next, stands.between.rest_in, c.requires.up, c.requires.some_falling) in
    let is : after ≡ at_step c.args.route.now (c.args.walked + 1) after.up = ap (λ r. let p : Position = record { up = after.up; rest = r } in p) rest in
    record {
      up = omega (arith, next, stands.between.rest_in, c.requires.up, c.requires.some_falling);
      stands = subst (λ (p : Position). StandsAt (g.P.Partners.counts c.pass_next.new.chain.partners) c.args.route.now p c.pass_next.new.chain.tallies) is stands;
    }
