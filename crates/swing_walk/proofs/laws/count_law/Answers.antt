use Rattle.swing_walk.proofs.Coalitions.{count_law, bound_law}
use Rattle.swing_walk.proofs.laws.count_law.Goals as goal

pub returns : goal.returns
returns c = record { swings = count_law; bound = bound_law }
