use Rattle.std.proofs.Common.{◌≡◌, ◌*◌, ◌^◌, ◌%◌, ◌-◌, ◌<◌, ℕ, [], ◌∷◌, ◌∙◌, arith, length, drop, take, set, get_or, List, sym}
use Rattle.std.specs.List.{All}
use Rattle.std.specs.Prelude.{bit_and}
use Rattle.std.proofs.lemmas.Nat.{pow_pos}
use Rattle.std.proofs.lemmas.List.{drop_all, length-set, length-take-le}
use Rattle.std.proofs.lemmas.List.Sorted.{IsNonDecreasingBy-short}
use Rattle.half_sums.specs.Entries.{entries_from, numbers_from}
use Rattle.half_sums.proofs.Numbers.{first_one, length-entries, sums_ascend}
use Rattle.half_sums.proofs.SubsetFacts.{AreSubsets-none, AreSubsets-more, IsHalf-one, IsHalf-more, chairs_within_slots, room_of, room_left, all_sets, small_left, drop_back, distinct_left, slot_bit, sets_doubled, numbers_small}
use Rattle.half_sums.proofs.MaskLemmas.{slot_free, bit_free}
use Rattle.half_sums.proofs.Mirrors.{IsMirror-one}
use Rattle.half_sums.proofs.ordered.fill.Goals as goal

pub loop-at-init : goal.loop-at-init
loop-at-init c =
    let some = pow_pos (length c.args.chairs.now) in
    let one : numbers_from 1 (take 1 (set c.args.words.now 0 0)) ≡ 0 ∷ [] = first_one c.args.words.now (omega (arith, some, c.requires.room)) in
    let none : drop (length c.args.chairs.now) c.args.chairs.now ≡ [] = drop_all (length c.args.chairs.now) c.args.chairs.now (omega arith) in
    record {
      subsets = rw (one, none) AreSubsets-none;
      half = rw one IsHalf-one;
      ascending = rw one (IsNonDecreasingBy-short (λ n. n) (0 ∷ []) (omega arith));
      mirror = rw one IsMirror-one;
      full = omega arith;
      bound = some;
      room = length-set c.args.words.now 0 0 ∙ c.requires.room;
    }

pub double-full-requires-clause-room : goal.double-full-requires-clause-room
double-full-requires-clause-room c =
    let inv = c.loop-at.invariant in
    omega (arith, room_left c.args.chairs.now c.loop-at.at _ inv.subsets (omega arith) (omega arith), length-entries c.loop-at.full (take c.loop-at.count c.loop-at.words), length-take-le c.loop-at.count c.loop-at.words (omega (arith, inv.bound, inv.room)), inv.room)

pub double-full-requires-clause-small : goal.double-full-requires-clause-small
double-full-requires-clause-small c =
    let chairs = c.args.chairs.now in
    let at = c.loop-at.at in
    let inv = c.loop-at.invariant in
    numbers_small (numbers_from c.loop-at.full (take c.loop-at.count c.loop-at.words)) _ _ (omega arith) (small_left chairs at _ inv.subsets c.requires.small (omega arith) (omega arith))

pub loop-at-preserved : goal.loop-at-preserved
loop-at-preserved c =
    let chairs = c.args.chairs.now in
    let at = c.loop-at.at in
    let inv = c.loop-at.invariant in
    let words : List ℕ = take c.loop-at.count c.loop-at.words in
    let within : at - 1 < length chairs = omega arith in
    let chair = get_or chairs (at - 1) (0, 0) in
    let bit_is = slot_bit chair.0 (c.requires.slots (at - 1) (0, 0) within) in
    let small = small_left chairs at _ inv.subsets c.requires.small (omega arith) (omega arith) in
    let room = room_left chairs at _ inv.subsets (omega arith) (omega arith) in
    let all = room_of chairs (chairs_within_slots _ c.requires.slots c.requires.distinct) in
    let free : All (λ e. bit_and e.mask (1 * 2 ^ chair.0 % 2 ^ 16) ≡ 0) (entries_from c.loop-at.full words) = rw (← bit_is) (bit_free chair.0 (entries_from c.loop-at.full words) (slot_free chair (drop at chairs) (entries_from c.loop-at.full words) (distinct_left chairs at c.requires.distinct (omega arith) (omega arith)) inv.subsets)) in
    let moves = sets_doubled (numbers_from c.loop-at.full words) _ chair.1 _ (omega arith) free c.double-full.ensures.each_once in
    let up = sums_ascend _ c.double-full.ensures.ascending in
    let long : length (entries_from c.loop-at.full words) ≡ c.loop-at.count = length-entries c.loop-at.full words ∙ length-take-le c.loop-at.count c.loop-at.words (omega (arith, inv.bound, inv.room)) in
    record {
      subsets = rw (drop_back chairs at (omega arith) (omega arith)) (AreSubsets-more _ _ _ _ _ inv.subsets bit_is moves up);
      half = IsHalf-more _ _ _ _ inv.half (omega arith) (omega (arith, room, all)) small moves up;
      ascending = c.double-full.ensures.ascending;
      mirror = c.double-full.ensures.mirror;
      full = c.double-full.ensures.full;
      bound = omega (arith, room, long);
      room = c.double-full.ensures.room ∙ inv.room;
    }

pub returns : goal.returns
returns c =
    let inv = c.loop-at.invariant in
    let done : c.loop-at.at ≡ 0 = omega arith in
    let all = rw done at inv.subsets in
    let whole : take c.loop-at.count c.loop-at.words ≡ c.loop-at.words = all_sets c.args.chairs.now c.loop-at.full c.loop-at.count c.loop-at.words all inv.bound inv.room in
    record {
      subsets = rw whole at all;
      half = rw whole at inv.half;
      room = inv.room ∙ sym c.requires.room;
    }
