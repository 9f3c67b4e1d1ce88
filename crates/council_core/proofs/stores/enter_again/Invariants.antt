use Rattle.std.proofs.Common.{◌≡◌, ◌≤◌, ◌+◌, length, take}
use Rattle.indexmap.specs.IndexMap.{spare}
use Rattle.council_core.proofs.stores.enter_again.Given as goal

abbrev pub invariant-loop-row : goal.invariant-loop-row
invariant-loop-row l = record {
  entries : l.members.entries ≡ take l.row-index l.rows;
  room : 256 ≤ length l.members.entries + spare l.members;
}
