use Rattle.board_share.proofs.Names.{due_at, ◌-◌, ◌≡◌, ◌≤◌}
use Rattle.board_share.specs.Writers.{HasFilled, IsFilling}
use Rattle.board_share.proofs.writer_steps.store_words.Given as goal

abbrev pub ghosts-store_word : goal.ghosts-store_word
ghosts-store_word a = record { list = due_at a.seat.now.me a.register.now.journal }

abbrev pub invariant-loop-k : goal.invariant-loop-k
invariant-loop-k l =
    record {
      fills : IsFilling l.board.shared.table_id l.seat.table_id l.seat.me l.register l.copy l.k;
      table : l.seat.table_id ≡ l.fn.seat.table_id;
      from : l.from ≤ l.k;
      stored : HasFilled l.register (l.k - l.from) l.from l.k l.fn.seat.me l.seat.me;
    }
