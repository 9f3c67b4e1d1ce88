use Rattle.council_core.proofs.LawLemmas.{IsSheet-sheet}
use Rattle.council_core.proofs.laws.sheet_law.Goals as goal

pub returns : goal.returns
returns c = record { in_range = IsSheet-sheet }
