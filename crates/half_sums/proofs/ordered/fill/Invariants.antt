use Rattle.std.proofs.Common.{◌≡◌, ◌≤◌, ◌^◌, drop, take, length}
use Rattle.half_sums.specs.Entries.{entries_from, numbers_from, AreSubsets, IsHalf}
use Rattle.half_sums.specs.Merges.{Ascend, IsMirror}
use Rattle.half_sums.proofs.ordered.fill.Given as goal

abbrev pub invariant-loop-at : goal.invariant-loop-at
invariant-loop-at l = record {
  subsets : AreSubsets (drop l.at l.chairs) (entries_from l.full (take l.count l.words));
  half : IsHalf (entries_from l.full (take l.count l.words));
  ascending : Ascend (numbers_from l.full (take l.count l.words));
  mirror : IsMirror (numbers_from l.full (take l.count l.words));
  full : l.full ≤ l.count;
  bound : l.count ≤ 2 ^ length l.chairs;
  room : length l.words ≡ 2 ^ length l.chairs;
}
