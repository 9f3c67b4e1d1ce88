use Rattle.majority_rule.proofs.Face.{majority-back, majority-word}
use Rattle.board_text.proofs.laws.majority_law.Goals as goal

pub returns : goal.returns
returns c = record { read_back = majority-back; no_other = majority-word }
