use Rattle.board_report.proofs.programs.run.Goals as goal

pub returns-in-Serve-clause-ends : goal.returns-in-Serve-clause-ends
returns-in-Serve-clause-ends g c = λ bytes is. rw c.in-Serve.is (c.run_serve.ensures.ends bytes is)
