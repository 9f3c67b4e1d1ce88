use Rattle.std.proofs.Common.{◌≡◌, ◌≤◌, length, take}
use Rattle.std.specs.List.{enumerate_from}
use Rattle.power_index.proofs.halves.chairs_of.Given as goal

abbrev pub invariant-loop-slot : goal.invariant-loop-slot
invariant-loop-slot l = record {
  chairs : l.chairs.items ≡ enumerate_from 0 (take l.slot l.weights);
  bound : length l.chairs.items ≤ l.slot;
}
