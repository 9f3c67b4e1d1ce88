use Rattle.std.proofs.Common.{◌+◌, arith}
use Rattle.council_core.specs.Rolls.{votes_in}
use Rattle.board_c.specs.declared.counts.members.BoardMember.{BoardMember}
use Rattle.board_c.specs.Members.{standing_of}
use Rattle.std.proofs.lemmas.List.Sums.{sum_by_more}
use Rattle.board_c.proofs.MemberSums.{front_within, no_member}
use Rattle.board_c.proofs.counts.members.word_of.Goals as goal

pub overflow_add-votes : goal.overflow_add-votes
overflow_add-votes c = record { fits = omega (arith, c.loop-index.invariant.votes, c.votes_in-votes.ensures.votes, sum_by_more (λ (m : BoardMember). votes_in c.args.chair (standing_of m)) c.args.members.now c.loop-index.index no_member c.loop-index-test.true, front_within c.args.chair (c.loop-index.index + 1) c.args.members.now, c.requires.small) }

pub overflow_add-result : goal.overflow_add-result
overflow_add-result c = record { fits = omega (arith, c.loop-index.invariant.votes, front_within c.args.chair c.loop-index.index c.args.members.now, c.requires.small) }
