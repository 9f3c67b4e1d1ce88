use Rattle.board_share.proofs.ReaderSeats.{left}
use Rattle.board_share.proofs.reader_steps.advance.Goals as goal

pub returns-clause-seat : goal.returns-clause-seat
returns-clause-seat c =
    left _ _ _ _ _ _ c.requires.reader _ _ record { same = c.touch-found.ensures.table; next = c.touch-found.ensures.step; stage_is = c.advance.ensures.stage c.args.r }

pub returns-in_err-sheet-clause-seat : goal.returns-in_err-sheet-clause-seat
returns-in_err-sheet-clause-seat c =
    left _ _ _ _ _ _ c.requires.reader _ _ record { same = c.touch-found.ensures.table; next = c.touch-found.ensures.step; stage_is = c.advance.ensures.stage c.args.r }
