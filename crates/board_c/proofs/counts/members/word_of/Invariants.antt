use Rattle.std.proofs.Common.{◌≡◌, take}
use Rattle.std.specs.List.{list_any, sum_by}
use Rattle.council_core.specs.Rolls.{sits_in, votes_in}
use Rattle.board_c.specs.Members.{standing_of}
use Rattle.board_c.proofs.counts.members.word_of.Given as goal

abbrev pub invariant-loop-index : goal.invariant-loop-index
invariant-loop-index l = record {
  is_taken : l.is_taken ≡ list_any (λ m. sits_in l.chair (standing_of m)) (take l.index l.members);
  votes : l.votes ≡ sum_by (λ m. votes_in l.chair (standing_of m)) (take l.index l.members);
}
