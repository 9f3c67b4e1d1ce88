use Rattle.board_text.proofs.WriteFacts.{front-written_by, whole-or-failed}
use Rattle.board_text.proofs.output.Output.write_front.Goals as goal

pub returns-clause-front : goal.returns-clause-front
returns-clause-front g c = front-written_by _ _ c.write_text.result _ c.write_text.ensures.written

pub returns-clause-whole_or_failed : goal.returns-clause-whole_or_failed
returns-clause-whole_or_failed g c =
    whole-or-failed c.args.self.now c.write_text.new.self c.write_text.result c.args.text.now c.write_text.ensures.written c.write_text.ensures.failed
