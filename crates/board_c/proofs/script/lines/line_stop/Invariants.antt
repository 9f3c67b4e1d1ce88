use Rattle.std.proofs.Common.{length, ◌-◌, ◌≡◌, ◌≤◌, ◌+◌, drop}
use Rattle.std.specs.List.{prefix_len}
use Rattle.board_c.specs.Spans.{is_in_line}
use Rattle.board_c.proofs.script.lines.line_stop.Given as goal

abbrev pub invariant-bytes : goal.invariant-bytes
invariant-bytes l = record {
  within : l.index ≤ length l.text;
  same : l.index + prefix_len is_in_line (drop l.index l.text) ≡ l.fn.from + prefix_len is_in_line (drop l.fn.from l.text);
}

abbrev pub decreases-bytes : goal.decreases-bytes
decreases-bytes l = length l.text - l.index
