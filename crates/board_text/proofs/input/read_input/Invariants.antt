use Rattle.std.proofs.Common.{◌≤◌, ◌+◌, length}
use Rattle.recording_io.specs.Tapes.{CallsWithin, WasGiven}
use Rattle.board_text.proofs.input.read_input.Given as goal

-- what was read was given, and each turn so far asked for one read, which gave a byte or was an
-- interruption
abbrev pub invariant-loop-turn : goal.invariant-loop-turn
invariant-loop-turn g l = record {
  so_far : WasGiven l.fn.input l.input l.text.items;
  fits : length l.text.items ≤ 4194304;
  asked : l.interrupted ≤ 1000;
  reads : CallsWithin (record { made = l._turn; empty = 0; interrupted = l.interrupted }) l.fn.input.calls l.input.calls;
  turns : l._turn ≤ length l.text.items + l.interrupted;
}
