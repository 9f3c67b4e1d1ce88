use Rattle.std.proofs.Common.{◌≤◌, length, arith}
use Rattle.std.proofs.lemmas.Nat.{one_shl}
use Rattle.half_sums.specs.declared.groups.TheConstants.{SLOTS}
use Rattle.half_sums.proofs.SubsetFacts.{chairs_within_slots, room_of}
use Rattle.half_sums.proofs.ordered.OrderedSums.rebuild.Goals as goal

pub overflow_shl-chairs : goal.overflow_shl-chairs
overflow_shl-chairs c = omega (arith, chairs_within_slots _ c.requires.slots c.requires.distinct)

pub set_length-requires : goal.set_length-requires
set_length-requires c =
    let few : length c.args.chairs.now ≤ SLOTS = chairs_within_slots _ c.requires.slots c.requires.distinct in
    record { room = omega (arith, one_shl (length c.args.chairs.now) 64 (omega (arith, few)), room_of c.args.chairs.now few, c.self.invariant.0) }

pub fill-self-inside-requires-clause-room : goal.fill-self-inside-requires-clause-room
fill-self-inside-requires-clause-room c =
    omega (arith, c.as_mut_slice.ensures.len, c.set_length.ensures.count, one_shl (length c.args.chairs.now) 64 (omega (arith, chairs_within_slots _ c.requires.slots c.requires.distinct)))
