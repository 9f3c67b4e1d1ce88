use Rattle.std.proofs.Common.{◌≡◌, ◌*◌, ◌^◌, ◌≤◌, take}
use Rattle.std.specs.List.{sum_by}
use Rattle.council_core.specs.declared.limits.TheConstants.{CHAIRS}
use Rattle.power_index.proofs.rows.swing_sum.Given as goal

abbrev pub invariant-loop-swings_of_chair : goal.invariant-loop-swings_of_chair
invariant-loop-swings_of_chair l = record {
  sum : l.sum ≡ sum_by (λ n. n) (take l.swings_of_chair-index l.swings);
  bounded : l.sum ≤ 2 ^ CHAIRS * l.swings_of_chair-index;
}
