use Rattle.board_c.proofs.RollWords.{members_on_roll, words_of_members}
use Rattle.board_c.proofs.counts.laws.members_law.Goals as goal

pub returns-clause-words : goal.returns-clause-words
returns-clause-words c = words_of_members

pub returns-clause-roll : goal.returns-clause-roll
returns-clause-roll c = members_on_roll
