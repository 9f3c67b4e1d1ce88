use Rattle.board_text.proofs.DigitFacts.{no-other-number}
use Rattle.board_text.proofs.NumberFacts.{number-back}
use Rattle.board_text.proofs.laws.number_law.Goals as goal

pub returns : goal.returns
returns c = record { read_back = number-back; no_other = no-other-number }
