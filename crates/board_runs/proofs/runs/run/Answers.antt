use Rattle.std.proofs.Common.{◌≡◌, ◌∙◌, rules, subst, true}
use Rattle.std.proofs.lemmas.Result.{err_from_is_err_and}
use Rattle.recording_io.specs.Tapes.{WriterRecord}
use Rattle.board_text.specs.Scripts.{interpreted_course, run_in}
use Rattle.board_text.specs.Streams.{WriteFailed}
use Rattle.board_runs.proofs.ReplayFacts.{replayed}
use Rattle.board_runs.proofs.runs.run.Goals as goal

pub returns-clause-wrote : goal.returns-clause-wrote
returns-clause-wrote g c =
    let of_call = subst (λ (w : WriterRecord). c.end_run-result.new.out.failed ≡ true → WriteFailed w.calls (g.W.Recorder.recorded c.into_inner-out.result.now).calls)
    (c.end_run-result.ensures.same_output.1 ∙ c.interpret-carried.ensures.same_output.1 ∙ c.new-output.ensures.start) c.into_inner-out.ensures.failure in
    let ended = replayed _ c.new-output.result.contents c.interpret-carried.new.out c.end_run-result.new.out of_call c.args.input.now c.interpret-carried.new.input
    c.interpret-carried.result c.end_run-result.result (λ bytes. run_in (interpreted_course g.I.Interpreter.opened g.I.Interpreter.parsed g.I.Interpreter.effect c.args.limits bytes))
    c.interpret-carried.ensures.write_fault c.interpret-carried.ensures.wrote c.end_run-result.ensures.ends in
    search rules

pub returns-in_err-result-clause-wrote : goal.returns-in_err-result-clause-wrote
returns-in_err-result-clause-wrote g c =
    let p = err_from_is_err_and c.from_residual.result c.from_residual.ensures.1 in
    let of_call = subst (λ (w : WriterRecord). c.end_run-result.new.out.failed ≡ true → WriteFailed w.calls (g.W.Recorder.recorded c.into_inner-out.result.now).calls)
    (c.end_run-result.ensures.same_output.1 ∙ c.interpret-carried.ensures.same_output.1 ∙ c.new-output.ensures.start) c.into_inner-out.ensures.failure in
    let ended = replayed _ c.new-output.result.contents c.interpret-carried.new.out c.end_run-result.new.out of_call c.args.input.now c.interpret-carried.new.input
    c.interpret-carried.result c.end_run-result.result (λ bytes. run_in (interpreted_course g.I.Interpreter.opened g.I.Interpreter.parsed g.I.Interpreter.effect c.args.limits bytes))
    c.interpret-carried.ensures.write_fault c.interpret-carried.ensures.wrote c.end_run-result.ensures.ends in
    search rules
