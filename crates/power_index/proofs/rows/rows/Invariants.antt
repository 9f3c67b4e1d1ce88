use Rattle.std.proofs.Common.{◌≡◌, ◌≤◌, length, take}
use Rattle.council_core.specs.Sheets.{open_chairs}
use Rattle.majority_rule.specs.Winning.{rule_of}
use Rattle.power_index.specs.Indices.{rows_among}
use Rattle.power_index.proofs.rows.rows.Given as goal

abbrev pub invariant-loop-i : goal.invariant-loop-i
invariant-loop-i l = record {
  rows : l.rows.items ≡ rows_among (rule_of l.tally.majority l.sheet) (open_chairs l.sheet) (take l.i l.chairs.items);
  bound : length l.rows.items ≤ l.i;
}
