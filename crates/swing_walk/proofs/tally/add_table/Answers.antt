use Rattle.std.proofs.Common.{arith}
use Rattle.swing_walk.proofs.Weights.{joined_weight, joined_sum}
use Rattle.swing_walk.proofs.tally.add_table.Goals as goal

pub returns : goal.returns
returns c = record {
  total = joined_sum c.args.table.now c.args.other.now c.loop-byte.table c.loop-byte.byte c.loop-byte.invariant (omega arith);
  each = λ weight. joined_weight weight c.args.table.now c.args.other.now c.loop-byte.table c.loop-byte.byte c.loop-byte.invariant (omega arith);
}
