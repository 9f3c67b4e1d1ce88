use Rattle.board_share.proofs.Names.{all_true, due_at, length, Publishing, seeing_phase, take, true, not_quiescent, ◌-◌}
use Rattle.board_share.proofs.Names.{◌≡◌, ◌≤◌}
use Rattle.two_copy_steps.specs.Publications.{StaySeen}
use Rattle.board_share.proofs.writer_steps.see_all.Given as goal

abbrev pub ghosts-load_pin : goal.ghosts-load_pin
ghosts-load_pin a = record { list = due_at a.seat.now.me a._register.now.journal }

abbrev pub invariant-loop-r : goal.invariant-loop-r
invariant-loop-r l =
    record {
      table : l.seat.table_id ≡ l.fn.seat.table_id;
      publishing : Publishing l.register l.fn.seat.me l.seat.me
          (not_quiescent l.fn.seen_out - not_quiescent l.seen_out) l.seen_out (seeing_phase l.seen_out);
      unseen_less : not_quiescent l.seen_out ≤ not_quiescent l.fn.seen_out;
      stays : StaySeen l.fn.seen_out l.seen_out;
      count : length l.seen_out ≡ length l.fn.seen_out;
      first : all_true (take l.r l.seen_out) ≡ true;
    }
