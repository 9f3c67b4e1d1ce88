use Rattle.std.proofs.Common.{arith}
use Rattle.council_core.specs.Rolls.{effective_votes}
use Rattle.board_c.specs.declared.counts.members.BoardMember.{BoardMember}
use Rattle.board_c.specs.Members.{standing_of}
use Rattle.std.proofs.lemmas.List.Sums.{sum_by_more}
use Rattle.board_c.proofs.MemberSums.{seated_more, no_member}
use Rattle.board_c.proofs.counts.members.total_of.Goals as goal

pub loop-index-preserved : goal.loop-index-preserved
loop-index-preserved c = record {
  total = omega (arith, c.loop-index.invariant.total, c.counted_votes-votes.ensures, sum_by_more (λ (m : BoardMember). effective_votes (standing_of m)) c.args.members.now c.loop-index.index no_member c.loop-index-test.true);
  high = omega (arith, c.if-votes-total.false);
  seated = seated_more c.args.members.now c.loop-index.index c.loop-index-test.true c.loop-index.invariant.seated c.if-members-index.false;
}
