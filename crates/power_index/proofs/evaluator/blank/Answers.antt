use Rattle.power_index.proofs.HalfLemmas.{blank_lawful}
use Rattle.power_index.proofs.evaluator.blank.Goals as goal

pub unreachable-requires : goal.unreachable-requires
unreachable-requires c = let bad = c.in-Err.ensures.in_range.1 blank_lawful in absurd (cc)
