use Rattle.std.proofs.Common.{List, inl, subst}
use Rattle.std.proofs.lemmas.Result.{err_from_is_err_and}
use Rattle.board_text.specs.Output.{StopsReading}
use Rattle.board_text.specs.Requests.{Row}
use Rattle.board_text.specs.Text.{started_after, preamble_of}
use Rattle.board_text.specs.Scripts.{course_of_script}
use Rattle.board_text.proofs.RunFacts.{written-none, writes-broken, writes-passed}
use Rattle.board_text.proofs.InterpretFacts.{writes-failed}
use Rattle.board_text.proofs.FailureFacts.{blames-memory, blames-start}
use Rattle.board_text.proofs.interpreters.interpret_text.Goals as goal

pub returns-in_err-start-clause-wrote : goal.returns-in_err-start-clause-wrote
returns-in_err-start-clause-wrote g c =
    let p = err_from_is_err_and c.from_residual.result c.from_residual.ensures.1 in
    let fault = subst (λ (rs : List Row). StopsReading c.in_err-start.field-0.0 (started_after c.args.limits (preamble_of rs))) c.new-script.ensures.records c.in_err-start.ensures.fault in
    rw p.1 (writes-failed c.args.out.now.contents c.in_err-start.field-0.0 p.0 (course_of_script g.I.Interpreter.opened g.I.Interpreter.parsed g.I.Interpreter.effect c.args.limits) _ p.2 fault)

pub returns-in_err-interpreter-clause-wrote : goal.returns-in_err-interpreter-clause-wrote
returns-in_err-interpreter-clause-wrote g c =
    let p = err_from_is_err_and c.from_residual-in_err-interpreter.result c.from_residual-in_err-interpreter.ensures.1 in
    rw p.1 (writes-passed _ _ c.in_err-interpreter.field-0.0 p.0 _ p.2 (writes-broken _ _ c.in_err-interpreter.field-0.0 _ _ (inl c.in_err-interpreter.ensures.memory) (written-none _ _)))

pub returns-in_err-start-clause-write_fault : goal.returns-in_err-start-clause-write_fault
returns-in_err-start-clause-write_fault g c =
    let p = err_from_is_err_and c.from_residual.result c.from_residual.ensures.1 in
    rw p.1 (blames-start c.args.out.now c.in_err-start.field-0.0 p.0 p.2 _ c.in_err-start.ensures.fault)

pub returns-in_err-interpreter-clause-write_fault : goal.returns-in_err-interpreter-clause-write_fault
returns-in_err-interpreter-clause-write_fault g c =
    let p = err_from_is_err_and c.from_residual-in_err-interpreter.result c.from_residual-in_err-interpreter.ensures.1 in
    rw p.1 (blames-memory c.args.out.now c.in_err-interpreter.field-0.0 p.0 p.2 c.in_err-interpreter.ensures.memory)
