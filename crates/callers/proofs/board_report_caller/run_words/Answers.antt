use Rattle.std.proofs.Common.{inl}
use Rattle.callers.proofs.board_report_caller.run_words.Goals as goal

pub returns : goal.returns
returns g c =
    record {
      calls = λ call asks. c.process.ensures.calls call asks c.args.input.now (inl c.new-reader.ensures.left);
    }
