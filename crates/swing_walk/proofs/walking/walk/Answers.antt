use Rattle.std.proofs.Common.{◌≡◌, ◌+◌, ◌-◌, arith, ap, List, inl, inr, get_or}
use Rattle.std.proofs.lemmas.Bool.{cases_lt}
use Rattle.half_sums.specs.declared.entry.Entry.{Entry}
use Rattle.half_sums.specs.declared.groups.TheConstants.{SLOTS}
use Rattle.swing_walk.specs.Tallies.{slot_amount, tally_total}
use Rattle.swing_walk.specs.Walks.{wins_on}
use Rattle.swing_walk.proofs.Counting.{pairs_whole, place_left, place_right}
use Rattle.swing_walk.proofs.WinningPairs.{turned_marks}
use Rattle.swing_walk.proofs.walking.walk.Goals as goal

pub join-requires : goal.join-requires
join-requires g c = record { room = omega (arith, c.walk_on.ensures.lefts.totals, pairs_whole (wins_on c.args.route.now) c.args.route.now.rising c.args.route.now.falling c.args.route.now.rising_half.bound c.args.route.now.falling_half.bound) }

pub join-requires-2 : goal.join-requires-2
join-requires-2 g c = record { room = omega (arith, ap tally_total c.join.ensures.kept, c.walk_on.ensures.rights.totals, pairs_whole (wins_on c.args.route.now) c.args.route.now.falling c.args.route.now.rising c.args.route.now.falling_half.bound c.args.route.now.rising_half.bound) }

pub counts_of-requires-clause-left_room : goal.counts_of-requires-clause-left_room
counts_of-requires-clause-left_room g c = omega (arith, ap tally_total c.rising.ensures.same, c.join.ensures.total, c.walk_on.ensures.lefts.totals, pairs_whole (wins_on c.args.route.now) c.args.route.now.rising c.args.route.now.falling c.args.route.now.rising_half.bound c.args.route.now.falling_half.bound)

pub counts_of-requires-clause-right_room : goal.counts_of-requires-clause-right_room
counts_of-requires-clause-right_room g c = omega (arith, ap tally_total c.rising-2.ensures.same, c.join-2.ensures.total, ap tally_total c.join.ensures.kept, c.walk_on.ensures.rights.totals, pairs_whole (wins_on c.args.route.now) c.args.route.now.falling c.args.route.now.rising c.args.route.now.falling_half.bound c.args.route.now.rising_half.bound)

pub returns-clause-winning : goal.returns-clause-winning
returns-clause-winning g c = omega (arith, c.counts_of.ensures.winning, ap tally_total c.rising.ensures.same, c.join.ensures.total, c.walk_on.ensures.lefts.totals)

pub returns-clause-with_chair : goal.returns-clause-with_chair
returns-clause-with_chair g c = λ place h.
    let test = wins_on c.args.route.now in
    let left : List Entry = c.args.route.now.rising in
    let right : List Entry = c.args.route.now.falling in
    elim (cases_lt place SLOTS) [
      | inl below ↦ omega (arith, c.counts_of.ensures.left place below, ap (slot_amount place) c.rising.ensures.same, c.join.ensures.marked place, c.walk_on.ensures.lefts.marks place, place_left test place left right below)
      | inr above ↦ (let at : SLOTS + (place - SLOTS) ≡ place = omega arith in
          omega (arith, ap (λ k. get_or c.counts_of.result.with_chair k 0) at, c.counts_of.ensures.right (place - SLOTS) (omega arith), ap (slot_amount (place - SLOTS)) c.rising-2.ensures.same, c.join-2.ensures.marked (place - SLOTS), ap (slot_amount (place - SLOTS)) c.join.ensures.kept, c.walk_on.ensures.rights.marks (place - SLOTS), turned_marks c.args.route.now.quota c.args.route.now.least_size (place - SLOTS) left right, place_right test place left right above))
    ]
