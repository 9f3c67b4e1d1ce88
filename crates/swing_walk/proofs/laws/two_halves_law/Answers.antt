use Rattle.swing_walk.proofs.BoardSets.{two_halves_law}
use Rattle.swing_walk.proofs.laws.two_halves_law.Goals as goal

pub returns : goal.returns
returns c = record { halves = two_halves_law }
