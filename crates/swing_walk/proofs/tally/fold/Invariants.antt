use Rattle.std.proofs.Common.{◌≡◌, ℕ, ◌+◌, ◌<◌, ◌≤◌, get_or, take, drop, length}
use Rattle.std.specs.List.{sum_by}
use Rattle.swing_walk.proofs.tally.fold.Given as goal

abbrev pub invariant-loop-index : goal.invariant-loop-index
invariant-loop-index l = record {
  size : length l.table ≡ length l.initial.table;
  total : l.total ≡ sum_by (λ n. n) (take l.index (take l.half (drop l.half l.initial.table)));
  done : (k : ℕ) → k < l.index → get_or l.table k 0 ≡ get_or l.initial.table k 0 + get_or l.initial.table (l.half + k) 0;
  rest : (k : ℕ) → l.index ≤ k → get_or l.table k 0 ≡ get_or l.initial.table k 0;
}
