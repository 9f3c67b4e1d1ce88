use Rattle.std.proofs.Common.{map, take}
use Rattle.std.specs.Io.KnownBytes.{Appends}
use Rattle.board_text.specs.Lines.{chair_line}
use Rattle.board_text.specs.OutputStates.{IsSameOutput}
use Rattle.board_text.specs.Text.{text_of}
use Rattle.board_runs.proofs.replaying.write_chairs.Given as goal

-- the lines of the chairs so far were written
abbrev pub invariant-loop-row : goal.invariant-loop-row
invariant-loop-row g l = record {
  so_far : Appends l.fn.out.contents l.out.contents (text_of (map chair_line (take l.row-index l.rows)));
  same_output : IsSameOutput l.fn.out l.out;
}
