use Rattle.board_text.proofs.PrintedFacts.{reading-law}
use Rattle.board_text.proofs.laws.reading_law.Goals as goal

pub returns : goal.returns
returns c = record { determined = reading-law }
