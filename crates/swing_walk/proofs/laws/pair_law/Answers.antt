use Rattle.swing_walk.proofs.BoardSets.{coalition_law}
use Rattle.swing_walk.proofs.PairLaws.{pair_law}
use Rattle.swing_walk.proofs.laws.pair_law.Goals as goal

pub returns : goal.returns
returns c = record { coalitions = coalition_law; counts = pair_law }
