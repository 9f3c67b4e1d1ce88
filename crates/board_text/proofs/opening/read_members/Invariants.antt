use Rattle.std.proofs.Common.{◌≡◌, ◌≤◌, ◌<◌, ◌+◌, ◌-◌, ◌^◌, length}
use Rattle.council_core.specs.declared.limits.TheConstants.{MAX_MEMBERS}
use Rattle.board_text.specs.Text.{members_before, preamble_after_header}
use Rattle.board_text.proofs.MemberFacts.{members_after}
use Rattle.board_text.proofs.OpeningFacts.{opening_after}
use Rattle.board_text.proofs.opening.read_members.Given as goal

-- the records that are left open the run as all do, and have the members that follow
abbrev pub invariant-records : goal.invariant-records
invariant-records l = record {
  same : preamble_after_header l.fn.script ≡ opening_after l.members.items (MAX_MEMBERS - length l.members.items) l.number l.script;
  front : members_before l.fn.script ≡ members_after l.members.items (MAX_MEMBERS - length l.members.items) l.script;
  bound : length l.members.items ≤ MAX_MEMBERS;
  numbers : l.number + length l.script ≤ 2 + length l.fn.script;
  short : length l.fn.script < 2 ^ 31;
}

abbrev pub decreases-records : goal.decreases-records
decreases-records l = length l.script
