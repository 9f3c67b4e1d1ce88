use Rattle.board_share.proofs.WriterSteps.{load_allowed, seat_stepped}
use Rattle.board_share.proofs.writer_steps.load_pin.Goals as goal

pub load-requires : goal.load-requires
load-requires g c = rw c.pin.ensures.same
    (c.requires.may.same, c.requires.may.within, load_allowed _ _ _ _ _ _ _ _ c.requires.may c.requires.becomes)

pub returns : goal.returns
returns g c = record { step = seat_stepped _ _ _ _ _ _ c.requires.may.writes c.load.ensures.0 c.load.ensures.2 }
