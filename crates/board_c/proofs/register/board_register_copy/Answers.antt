use Rattle.board_c.proofs.HandleFacts.{handle_kept}
use Rattle.board_c.proofs.register.board_register_copy.Goals as goal

pub returns-in-Ok-clause-unchanged : goal.returns-in-Ok-clause-unchanged
returns-in-Ok-clause-unchanged c = handle_kept _ _ _ c.state.ensures.1 c.register_of.ensures.value

pub returns-in-Err-clause-unchanged : goal.returns-in-Err-clause-unchanged
returns-in-Err-clause-unchanged c = handle_kept _ _ _ c.state.ensures.1 c.register_of.ensures.value
