use Rattle.std.proofs.lemmas.Result.{err_from_is_err_and}
use Rattle.board_text.specs.Scripts.{course_of_script}
use Rattle.board_text.proofs.InterpretFacts.{TextRead, start-input, writes-failed_input}
use Rattle.board_text.specs.Streams.{IsReadFault}
use Rattle.board_text.proofs.ReadingFacts.{reads-on, reads-passed}
use Rattle.board_text.proofs.FailureFacts.{blames-input}
use Rattle.board_text.proofs.interpreters.interpret.Goals as goal

pub returns-in_err-text-clause-wrote : goal.returns-in_err-text-clause-wrote
returns-in_err-text-clause-wrote g c =
    let p = err_from_is_err_and c.from_residual.result c.from_residual.ensures.1 in
    rw p.1 (writes-failed_input c.args.input.now c.read_within.new.input c.args.out.now.contents c.in_err-text.field-0.0 p.0 c.args.limits (course_of_script g.I.Interpreter.opened g.I.Interpreter.parsed g.I.Interpreter.effect c.args.limits) p.2 c.in_err-text.ensures.fault)

pub returns-clause-wrote : goal.returns-clause-wrote
returns-clause-wrote g c = λ bytes is.
    let read : TextRead c.args.limits c.as_slice.result.now =
    record { input = c.in_ok-text.text.items; fits = c.in_ok-text.ensures.in_range; same = c.as_slice.ensures.value; short = c.in_ok-text.ensures.fits } in
    rw (start-input c.args.input.now c.read_within.new.input c.args.limits c.as_slice.result.now read c.in_ok-text.ensures.whole bytes is) c.interpret_text.ensures.wrote

pub returns-clause-ended : goal.returns-clause-ended
returns-clause-ended g c = λ bytes is.
    let read : TextRead c.args.limits c.as_slice.result.now =
    record { input = c.in_ok-text.text.items; fits = c.in_ok-text.ensures.in_range; same = c.as_slice.ensures.value; short = c.in_ok-text.ensures.fits } in
    rw (start-input c.args.input.now c.read_within.new.input c.args.limits c.as_slice.result.now read c.in_ok-text.ensures.whole bytes is) c.interpret_text.ensures.ended

pub returns-in_err-text-clause-reads : goal.returns-in_err-text-clause-reads
returns-in_err-text-clause-reads g c =
    let p = err_from_is_err_and c.from_residual.result c.from_residual.ensures.1 in
    rw p.1 (reads-passed c.args.input.now.calls c.read_within.new.input.calls c.in_err-text.field-0.0 p.0 p.2 c.in_err-text.ensures.reads)

pub returns-clause-reads : goal.returns-clause-reads
returns-clause-reads g c = reads-on c.args.input.now.calls c.read_within.new.input.calls IsReadFault c.in_ok-text.text c.interpret_text.result c.in_ok-text.ensures.reads

pub returns-in_err-text-clause-write_fault : goal.returns-in_err-text-clause-write_fault
returns-in_err-text-clause-write_fault g c =
    let p = err_from_is_err_and c.from_residual.result c.from_residual.ensures.1 in
    rw p.1 (blames-input c.args.out.now c.in_err-text.field-0.0 p.0 p.2 c.args.input.now c.read_within.new.input c.args.limits c.in_err-text.ensures.fault)
