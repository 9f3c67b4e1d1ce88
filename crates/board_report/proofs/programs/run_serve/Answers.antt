use Rattle.board_report.proofs.programs.run_serve.Goals as goal

pub returns-in-Ok-clause-ends : goal.returns-in-Ok-clause-ends
returns-in-Ok-clause-ends g c = λ bytes is. (c.in-Ok._served, c.in-Ok.ensures.wrote bytes is)
