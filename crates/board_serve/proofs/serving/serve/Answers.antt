use Rattle.std.proofs.Common.{◌≡◌, ◌∙◌, rules, subst, true}
use Rattle.recording_io.specs.Tapes.{WriterRecord}
use Rattle.board_text.specs.Streams.{WriteFailed}
use Rattle.board_text.proofs.Face.{reads-ended}
use Rattle.board_serve.specs.Plans.{plan_of}
use Rattle.board_serve.specs.declared.serving.Served.{Served}
use Rattle.board_serve.proofs.ServeFacts.{ended-serve}
use Rattle.board_serve.proofs.serving.serve.Goals as goal

pub returns-clause-wrote : goal.returns-clause-wrote
returns-clause-wrote g c = λ bytes is.
    let of_call = subst (λ (w : WriterRecord). c.end_run-result.new.out.failed ≡ true → WriteFailed w.calls (g.W.Recorder.recorded c.into_inner-out.result.now).calls)
    (c.end_run-result.ensures.same_output.1 ∙ c.serve_to-carried.ensures.same_output.1 ∙ c.new-output.ensures.start) c.into_inner-out.ensures.failure in
    let ended = ended-serve _ c.new-output.result.contents c.serve_to-carried.new.out c.end_run-result.new.out of_call c.serve_to-carried.result c.end_run-result.result (plan_of c.args.journal_limit bytes)
    c.serve_to-carried.ensures.write_fault (c.serve_to-carried.ensures.wrote bytes is) c.end_run-result.ensures.ends in
    search rules

pub returns-clause-reads : goal.returns-clause-reads
returns-clause-reads g c =
    reads-ended c.args.input.now.calls c.serve_to-carried.new.input.calls Served c.serve_to-carried.new.out c.end_run-result.new.out
    c.serve_to-carried.result c.end_run-result.result c.end_run-result.ensures.ends c.serve_to-carried.ensures.reads
