use Rattle.std.proofs.Common.{◌≡◌, false, ◌≤◌, ◌+◌, length, take}
use Rattle.std.specs.Io.KnownBytes.{Appends}
use Rattle.board_text.specs.OutputStates.{IsSameOutput, calls_without_bytes}
use Rattle.board_text.proofs.output.Output.write_text.Given as goal

-- a prefix of the text was written, and each turn so far made one write, which accepted a byte or
-- was an interruption
abbrev pub invariant-loop-turn : goal.invariant-loop-turn
invariant-loop-turn g l = record {
  front : Appends l.fn.self.contents l.self.contents (take l.at l.text);
  within : l.at ≤ length l.text;
  bound : l.self.retried ≤ 1000;
  live : l.self.failed ≡ false;
  same_output : IsSameOutput l.fn.self l.self;
  turns : l._turn + l.fn.self.retried ≤ l.at + l.self.retried;
  asked : l.self.now.calls.made ≡ l.fn.self.now.calls.made + l._turn;
  accepts : calls_without_bytes l.self + l.fn.self.retried ≡ calls_without_bytes l.fn.self + l.self.retried;
}
