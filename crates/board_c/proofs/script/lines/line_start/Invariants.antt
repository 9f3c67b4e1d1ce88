use Rattle.std.proofs.Common.{length, ◌-◌, ◌≡◌, ◌≤◌, ◌+◌, drop}
use Rattle.std.specs.List.{prefix_len}
use Rattle.board_c.specs.Spans.{is_line_end}
use Rattle.board_c.proofs.script.lines.line_start.Given as goal

abbrev pub invariant-bytes : goal.invariant-bytes
invariant-bytes l = record {
  within : l.index ≤ length l.text;
  same : l.index + prefix_len is_line_end (drop l.index l.text) ≡ l.fn.at + prefix_len is_line_end (drop l.fn.at l.text);
}

abbrev pub decreases-bytes : goal.decreases-bytes
decreases-bytes l = length l.text - l.index
