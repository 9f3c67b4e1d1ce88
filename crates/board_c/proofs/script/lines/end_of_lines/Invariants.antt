use Rattle.std.proofs.Common.{length, ◌≡◌, ◌≤◌}
use Rattle.board_c.specs.TextLines.{lines_end, mark_size}
use Rattle.board_c.proofs.script.lines.end_of_lines.Given as goal

abbrev pub invariant-loop-passed : goal.invariant-loop-passed
invariant-loop-passed l = record {
  within : l.at ≤ length l.text;
  same : l.at ≡ lines_end l._passed l.text (mark_size l.text);
}
