use Rattle.council_core.proofs.LawLemmas.{cast-sheet}
use Rattle.council_core.proofs.OpenChairs.{weight_of-open}
use Rattle.std.proofs.Common.{take}
use Rattle.council_core.proofs.laws.cast_law.Goals as goal

pub returns-clause-of_roll : goal.returns-clause-of_roll
returns-clause-of_roll c = cast-sheet

pub returns-clause-of_chairs : goal.returns-clause-of_chairs
returns-clause-of_chairs c = λ words. weight_of-open 1 (take 32 words)
