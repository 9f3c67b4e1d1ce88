use Rattle.std.proofs.Common.{◌≡◌, ◌≤◌, take}
use Rattle.std.specs.List.{All}
use Rattle.council_core.specs.declared.limits.TheConstants.{CHAIRS, MAX_TOTAL}
use Rattle.board_c.specs.Members.{member_total}
use Rattle.board_c.proofs.counts.members.total_of.Given as goal

abbrev pub invariant-loop-index : goal.invariant-loop-index
invariant-loop-index l = record {
  total : l.total ≡ member_total (take l.index l.members);
  high : l.total ≤ MAX_TOTAL;
  seated : All (λ m. m.chair ≤ CHAIRS) (take l.index l.members);
}
