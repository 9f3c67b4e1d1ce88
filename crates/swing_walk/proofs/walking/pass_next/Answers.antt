use Rattle.std.proofs.Common.{arith}
use Rattle.swing_walk.specs.Walks.{wins_on, position_after}
use Rattle.swing_walk.proofs.Counting.{pairs_room}
use Rattle.swing_walk.proofs.Steps.{back_room}
use Rattle.swing_walk.proofs.WinningPairs.{partners_room}
use Rattle.swing_walk.proofs.Meeting.{one_left, one_step, Passed, pass}
use Rattle.swing_walk.proofs.walking.pass_next.Goals as goal

pub add_to-requires-clause-rising_room : goal.add_to-requires-clause-rising_room
add_to-requires-clause-rising_room g c =
    omega (arith, c.pass-partners.ensures.partners, partners_room c.args.next.falls c.args.next c.args.route.now c.args.position, c.requires.stands.credited.rising_total, pairs_room (wins_on c.args.route.now) c.args.route.now.rising c.args.route.now.falling c.args.position.up c.args.route.now.rising_half.bound c.args.route.now.falling_half.bound)

pub add_to-requires-clause-falling_room : goal.add_to-requires-clause-falling_room
add_to-requires-clause-falling_room g c =
    omega (arith, c.pass-partners.ensures.partners, partners_room c.args.next.falls c.args.next c.args.route.now c.args.position, c.requires.stands.credited.falling_total, back_room (wins_on c.args.route.now) c.args.route.now.rising c.args.route.now.falling c.args.position.rest c.args.route.now.rising_half.bound c.args.route.now.falling_half.bound)

pub after-requires-clause-some : goal.after-requires-clause-some
after-requires-clause-some g c = one_left c.args.next.falls c.args.next c.args.route.now c.args.position c.requires.next

pub returns : goal.returns
returns g c =
    let some = one_left c.args.next.falls c.args.next c.args.route.now c.args.position c.requires.next in
    let passed : Passed c.args.route.now (position_after c.args.next.falls c.args.position) c.add_to.new.sides =
    pass c.args.next.falls c.args.next c.args.route.now c.args.position c.pass-partners.result c.args.chain.now.tallies c.add_to.new.sides record {
      between = c.requires.stands.between;
      is_next = c.requires.next;
      credited = c.requires.stands.credited;
      partners = c.pass-partners.ensures.partners;
      rising_total = c.add_to.ensures.rising_total;
      rising_marked = λ slot. rw c.mask.ensures.mask at (c.add_to.ensures.rising_marked slot);
      falling_total = c.add_to.ensures.falling_total;
      falling_marked = λ slot. rw c.mask.ensures.mask at (c.add_to.ensures.falling_marked slot);
    } in
    rw c.after.ensures.after (record {
      next = one_step c.args.next.falls c.args.position.up c.args.position.rest some;
      stands = record { between = passed.between; credited = passed.credited; counted = c.pass-partners.ensures.counted };
    })
