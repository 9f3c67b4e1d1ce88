use Rattle.board_text.proofs.OpeningLaws.{input-law}
use Rattle.board_text.proofs.laws.input_law.Goals as goal

pub returns : goal.returns
returns c = record { read_back = input-law }
