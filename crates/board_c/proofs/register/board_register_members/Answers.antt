use Rattle.board_c.proofs.HandleFacts.{handle_kept}
use Rattle.board_c.proofs.register.board_register_members.Goals as goal

pub returns-clause-unchanged : goal.returns-clause-unchanged
returns-clause-unchanged c = handle_kept _ _ _ c.state.ensures.1 c.register_of.ensures.value
