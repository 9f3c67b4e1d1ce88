use Rattle.std.proofs.lemmas.Result.{err_from_is_err_and}
use Rattle.council_core.specs.Sequential.{answered}
use Rattle.board_text.specs.Lines.{reply_line}
use Rattle.board_text.proofs.Face.{row-found, rows-stop, writes-passed}
use Rattle.board_serve.proofs.serving.write_answers.Goals as goal

pub returns-in_err-write_line-clause-wrote : goal.returns-in_err-write_line-clause-wrote
returns-in_err-write_line-clause-wrote g c =
    let p = err_from_is_err_and c.from_residual.result c.from_residual.ensures.1 in
    let row = row-found (λ a. reply_line (answered a)) c.args.answers.now c.loop-answer.answer-index _ c.line_of_answer.result c.loop-answer-test.true c.line_of_answer.ensures.text in
    rw p.1 (writes-passed _ _ c.in_err-write_line.field-0.0 p.0 _ p.2
    (rows-stop (λ a. reply_line (answered a)) _ _ _ c.in_err-write_line.field-0.0 c.args.answers.now c.loop-answer.answer-index row c.loop-answer.invariant.so_far c.in_err-write_line.ensures.written))
