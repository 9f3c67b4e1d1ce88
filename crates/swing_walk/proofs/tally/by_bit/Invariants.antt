use Rattle.std.proofs.Common.{◌≡◌, ℕ, ◌<◌, ◌≤◌, get_or, length}
use Rattle.swing_walk.specs.Tables.{weighted_sum, low_weight}
use Rattle.swing_walk.proofs.Weights.{FoldsTo}
use Rattle.swing_walk.proofs.tally.by_bit.Given as goal

abbrev pub invariant-loop-bit : goal.invariant-loop-bit
invariant-loop-bit l = record {
  within : l.bit ≤ 8;
  size : length l.folded ≡ 256;
  totals_size : length l.totals ≡ 8;
  folds : FoldsTo l.table l.folded l.bit;
  done : (k : ℕ) → l.bit ≤ k → k < 8 → get_or l.totals k 0 ≡ weighted_sum (low_weight k) 0 l.table;
}

abbrev pub decreases-loop-bit : goal.decreases-loop-bit
decreases-loop-bit l = l.bit
