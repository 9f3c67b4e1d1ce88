use Rattle.board_text.proofs.RequestFacts.{member-law}
use Rattle.board_text.proofs.laws.member_law.Goals as goal

pub returns : goal.returns
returns c = record { read_back = member-law }
