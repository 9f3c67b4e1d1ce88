use Rattle.board_share.proofs.Names.{AtRest, COPY_WORDS, length, reader_at, stage_with_words, take, ◌≡◌}
use Rattle.board_share.proofs.PartialReadings.{HasReadPart}
use Rattle.board_share.proofs.reader_steps.read_all.Given as goal

abbrev pub invariant-loop-k : goal.invariant-loop-k
invariant-loop-k l =
    record {
      long : length l.words ≡ COPY_WORDS;
      reading : HasReadPart l.board.shared.table_id (reader_at l.board.shared.table_id l.fn.seat.me.0 l.r AtRest) l.seat.table_id l.seat.me (stage_with_words l.side (take l.k l.words));
    }
