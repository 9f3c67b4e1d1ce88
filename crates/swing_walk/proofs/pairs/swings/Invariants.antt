use Rattle.std.proofs.Common.{◌≡◌, ℕ, ◌<◌, get_or, length}
use Rattle.swing_walk.specs.Pairs.{swings_of}
use Rattle.council_core.specs.declared.limits.TheConstants.{CHAIRS}
use Rattle.swing_walk.proofs.pairs.swings.Given as goal

abbrev pub invariant-loop-place : goal.invariant-loop-place
invariant-loop-place l = record {
  size : length l.swings ≡ CHAIRS;
  done : (k : ℕ) → k < l.place → get_or l.swings k 0 ≡ swings_of l.counts.winning (get_or l.counts.with_chair k 0);
}
