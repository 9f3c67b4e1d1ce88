use Rattle.std.proofs.Common.{refl}
use Rattle.board_text.proofs.Face.{writes-nothing}
use Rattle.board_serve.proofs.plan.PlanInterpreter.carry_out.Goals as goal

pub returns-clause-wrote : goal.returns-clause-wrote
returns-clause-wrote g c = writes-nothing c.args._out.now.contents c.in_ok-add.field-0

pub returns-clause-state : goal.returns-clause-state
returns-clause-state g c = rw (← c.self.view_is, c.in_ok-add.ensures.added) refl
