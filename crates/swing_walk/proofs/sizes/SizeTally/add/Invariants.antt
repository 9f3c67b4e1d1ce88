use Rattle.std.proofs.Common.{◌≡◌, ℕ, ◌+◌, ◌%◌, ◌^◌, ◌<◌, ◌≤◌, length, get_or}
use Rattle.swing_walk.specs.declared.sizes.TheConstants.{LANES}
use Rattle.swing_walk.proofs.sizes.SizeTally.add.Given as goal

abbrev pub invariant-loop-size : goal.invariant-loop-size
invariant-loop-size l = record {
  size : length l.self.at_least ≡ LANES;
  done : (k : ℕ) → k < l.size → get_or l.self.at_least k 0 ≡ (get_or l.fn.self.at_least k 0 + get_or l.steps k 0) % 2 ^ 16;
  rest : (k : ℕ) → l.size ≤ k → get_or l.self.at_least k 0 ≡ get_or l.fn.self.at_least k 0;
}
