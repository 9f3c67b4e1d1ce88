use Rattle.swing_walk.proofs.Weights.{Joined}
use Rattle.swing_walk.proofs.tally.add_table.Given as goal

abbrev pub invariant-loop-byte : goal.invariant-loop-byte
invariant-loop-byte l = Joined l.initial.table l.other l.table l.byte
