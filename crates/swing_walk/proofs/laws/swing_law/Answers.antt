use Rattle.swing_walk.proofs.Coalitions.{swing_law}
use Rattle.swing_walk.proofs.laws.swing_law.Goals as goal

pub returns : goal.returns
returns c = record { swings = swing_law }
