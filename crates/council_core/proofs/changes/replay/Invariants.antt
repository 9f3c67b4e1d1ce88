use Rattle.std.proofs.Common.{◌≡◌, ◌≤◌, ◌+◌, length, take, true}
use Rattle.indexmap.specs.IndexMap.{spare}
use Rattle.council_core.specs.Changes.{AgreesWith}
use Rattle.council_core.specs.Rolls.{Roll, all_accepted, fold_from}
use Rattle.council_core.proofs.changes.replay.Given as goal

abbrev pub invariant-loop-command : goal.invariant-loop-command
invariant-loop-command l = record {
  room : 256 ≤ length l.members.entries + spare l.members;
  so_far : (roll : Roll) → AgreesWith roll l.initial.members.entries l.initial.totals → all_accepted roll l.commands ≡ true
      → AgreesWith (fold_from roll (take l.command-index l.commands)) l.members.entries l.totals;
}
