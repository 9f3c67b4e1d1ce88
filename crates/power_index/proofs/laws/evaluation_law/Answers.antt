use Rattle.power_index.proofs.BoardLaw.{evaluation_law}
use Rattle.power_index.proofs.laws.evaluation_law.Goals as goal

pub returns : goal.returns
returns c = record { counts = evaluation_law }
