use Rattle.std.proofs.Common.{◌≡◌, ◌≤◌, take, length}
use Rattle.council_core.specs.Sheets.{open_from}
use Rattle.council_core.proofs.sheets.Sheet.open_chairs.Given as goal

abbrev pub invariant-loop-index : goal.invariant-loop-index
invariant-loop-index l = record {
  chairs : l.chairs.items ≡ open_from 1 (take l.index l.self);
  bound : length l.chairs.items ≤ l.index;
}
