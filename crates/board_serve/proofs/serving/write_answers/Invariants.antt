use Rattle.std.proofs.Common.{map, take}
use Rattle.std.specs.Io.KnownBytes.{Appends}
use Rattle.council_core.specs.Sequential.{answered}
use Rattle.board_text.specs.Lines.{reply_line}
use Rattle.board_text.specs.OutputStates.{IsSameOutput}
use Rattle.board_text.specs.Text.{text_of}
use Rattle.board_serve.proofs.serving.write_answers.Given as goal

-- the lines of the answers so far were written
abbrev pub invariant-loop-answer : goal.invariant-loop-answer
invariant-loop-answer g l = record {
  so_far : Appends l.fn.out.contents l.out.contents (text_of (map (λ a. reply_line (answered a)) (take l.answer-index l.answers)));
  same_output : IsSameOutput l.fn.out l.out;
}
