use Rattle.std.proofs.Common.{◌≤◌, ◌<◌, ◌+◌, ◌^◌, length}
use Rattle.board_c.proofs.ItemFacts.{ReadSo}
use Rattle.board_c.proofs.script.records.read_records.Given as goal

abbrev pub invariant-records : goal.invariant-records
invariant-records l = record {
  so : ReadSo l.text l.fn.limits l.fn.first l.fn.script l.number l.at l.script l.fn.items l.items l.count;
  inside : l.at ≤ length l.text;
  numbers : l.number + length l.script < 2 ^ 32;
  few : l.count ≤ l.number;
}

abbrev pub decreases-records : goal.decreases-records
decreases-records l = length l.script
