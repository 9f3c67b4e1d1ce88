use Rattle.c_values.specs.Counts.{ShowsCounts}
use Rattle.board_c.specs.Members.{member_words}
use Rattle.board_c.proofs.MemberSums.{written_shows}
use Rattle.board_c.proofs.counts.board_counts_of_members.Goals as goal

pub returns-clause-counted : goal.returns-clause-counted
returns-clause-counted c is =
    written_shows (λ shown. ShowsCounts c.args.majority (member_words c.args.members.now c.args.open_chairs) shown) c.counts_of_members.result _ (c.answer.ensures.done.0 is) c.answer.ensures.written c.counts_of_members.ensures.counts
