use Rattle.swing_walk.proofs.Meeting.{looked}
use Rattle.swing_walk.proofs.walking.pass.Goals as goal

pub pass_next-requires-clause-next : goal.pass_next-requires-clause-next
pass_next-requires-clause-next g c =
    looked c.falls_next-falls.result (record { low = c.next_up-low.result; high = c.next_down-high.result; falls = c.falls_next-falls.result }) c.args.route.now c.args.position (record {
      within = c.requires.stands.between.up_in;
      some = c.requires.some;
      low_is = c.next_up-low.ensures.entry;
      high_is = c.next_down-high.ensures.entry;
      test = rw c.len.ensures.count at c.falls_next-falls.ensures.next;
    })
