use Rattle.std.proofs.Common.{[], Some, inr, refl, ap, sym, ◌∙◌}
use Rattle.std.proofs.lemmas.List.{append-nil}
use Rattle.board_text.specs.Lines.{fault_line}
use Rattle.board_text.specs.Text.{line_text}
use Rattle.board_c.proofs.runs.lengths.measure_lack_of_memory.Goals as goal

pub returns : goal.returns
returns c = record {
  measures = λ run. record {
    text = c.as_bytes.result.now;
    end = Some c.new-fault.result;
    of_the_run = inr (
      ap Some c.new-fault.ensures.same,
      ([], (run.lines, refl), c.as_bytes.ensures ∙ c.end.ensures ∙ ap line_text (c.line_of_fault-line.ensures.text ∙ ap fault_line c.new-fault.ensures.same) ∙ sym (append-nil _)),
    );
    bytes = refl;
    number = refl;
    at = refl;
  };
}
