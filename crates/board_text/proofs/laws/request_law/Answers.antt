use Rattle.board_text.proofs.RequestFacts.{request-law}
use Rattle.board_text.proofs.laws.request_law.Goals as goal

pub returns : goal.returns
returns c = record { read_back = request-law }
