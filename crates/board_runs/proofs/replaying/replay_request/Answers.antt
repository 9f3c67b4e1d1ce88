use Rattle.std.proofs.Common.{ap, ◌∙◌}
use Rattle.board_text.specs.Lines.{reply_line}
use Rattle.board_text.proofs.Face.{writes-spelled}
use Rattle.board_runs.proofs.replaying.replay_request.Goals as goal

pub returns-in-Order-clause-wrote : goal.returns-in-Order-clause-wrote
returns-in-Order-clause-wrote g c =
    rw c.in-Order.is (writes-spelled _ _ _ c.line_of_answer.result _ (c.line_of_answer.ensures.text ∙ ap reply_line c.in_ok-answer-in-Order.ensures.replied) c.write_line.ensures.written)

pub returns-in-Read-clause-wrote : goal.returns-in-Read-clause-wrote
returns-in-Read-clause-wrote g c = rw c.in-Read.is c.write_reading.ensures.wrote
