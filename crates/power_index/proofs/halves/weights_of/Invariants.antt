use Rattle.std.proofs.Common.{◌≡◌, ◌≤◌, length, map, take}
use Rattle.power_index.proofs.halves.weights_of.Given as goal

abbrev pub invariant-loop-i : goal.invariant-loop-i
invariant-loop-i l = record {
  weights : l.weights.items ≡ map (λ c. c.1) (take l.i l.chairs.items);
  bound : length l.weights.items ≤ l.i;
}
