use Rattle.std.proofs.Common.{◌≡◌, ◌≤◌, take, vec_len}
use Rattle.std.specs.Vec.{vec_capacity}
use Rattle.board_serve.specs.Work.{IsRead, IsReadFrom}
use Rattle.board_serve.specs.declared.reader_work.ReaderWork.{ReaderWork}
use Rattle.board_serve.proofs.reader_work.ReaderWork.ask_in_order.Given as goal

-- the records so far are carried out, and there is room for the rest
abbrev pub invariant-loop-majority : goal.invariant-loop-majority
invariant-loop-majority g l =
    let fields = l.self.1 in
    let work : ReaderWork = record { analyst = fields.0; number = fields.1.0; asked = fields.1.1.0; sheets = fields.1.1.1.0; winning = fields.1.1.1.1.0 } in
    record {
      so_far : IsReadFrom l.fn.self.analyst work;
      done : IsRead (take l.majority-index l.fn.self.asked.items) work;
      sheets_stored : vec_len work.sheets ≡ l.majority-index;
      winning_stored : vec_len work.winning ≡ l.majority-index;
      sheets_fit : vec_len l.fn.self.asked ≤ vec_capacity work.sheets;
      winning_fit : vec_len l.fn.self.asked ≤ vec_capacity work.winning;
    }
