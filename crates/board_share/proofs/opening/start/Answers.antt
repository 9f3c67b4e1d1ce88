use Rattle.board_share.proofs.Openings.{writer_seat}
use Rattle.board_share.proofs.opening.start.Goals as goal

pub new-requires-clause-seat : goal.new-requires-clause-seat
new-requires-clause-seat c = writer_seat _ _ _ _ c.in-Ok.ensures.writer c.if-readers-gt-READERS.false
