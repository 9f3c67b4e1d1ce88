use Rattle.std.proofs.Common.{◌≤◌, take, vec_len}
use Rattle.std.specs.Vec.{vec_capacity}
use Rattle.board_serve.specs.Work.{IsWritten}
use Rattle.board_serve.specs.declared.writer_work.WriterWork.{WriterWork}
use Rattle.board_serve.proofs.writer_work.WriterWork.write_orders.Given as goal

-- the orders so far are carried out, and there is room for the rest
abbrev pub invariant-loop-order : goal.invariant-loop-order
invariant-loop-order g l =
    let fields = l.self.1 in
    let work : WriterWork = record { writer = fields.0; orders = fields.1.0; answers = fields.1.1.0; cuts = fields.1.1.1.0 } in
    record {
      so_far : IsWritten l.fn.self.writer (take l.order-index l.fn.self.orders.items) work;
      answers_stored : vec_len work.answers ≤ l.order-index;
      cuts_stored : vec_len work.cuts ≤ l.order-index;
      answers_fit : vec_len l.fn.self.orders ≤ vec_capacity work.answers;
      cuts_fit : vec_len l.fn.self.orders ≤ vec_capacity work.cuts;
    }
