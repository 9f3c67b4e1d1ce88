use Rattle.std.proofs.Common.{rules, arith}
use Rattle.std.proofs.lemmas.Result.{err_from_is_err_and}
use Rattle.board_serve.specs.Work.{register_of}
use Rattle.board_serve.proofs.WorkFacts.{stopped-at, written-more}
use Rattle.board_serve.proofs.writer_work.WriterWork.write_orders.Goals as goal

pub returns-in_err-answer-clause-causes : goal.returns-in_err-answer-clause-causes
returns-in_err-answer-clause-causes g c =
    let p = err_from_is_err_and c.from_residual.result c.from_residual.ensures.1 in
    let done = c.loop-order.invariant in
    rw p.1 (stopped-at (register_of c.args.self.now.writer) _ c.args.self.now.orders.items c.loop-order.order-index c.order-item.result c.in_err-answer.field-0.0 p.0
    (rw (← c.as_slice-order-items.ensures.value) (record { within = c.loop-order-test.true; here = c.order-item.is }))
    done.so_far.register p.2 c.in_err-answer.ensures.causes)

pub loop-order-preserved : goal.loop-order-preserved
loop-order-preserved g c =
    let done = c.loop-order.invariant in
    record {
      so_far = written-more c.args.self.now.writer c.args.self.now.orders.items c.loop-order.order-index _ _ _ done.so_far (record {
        answer = c.in_ok-answer.answer;
        stands = rw (← c.as_slice-order-items.ensures.value) (record { within = c.loop-order-test.true; here = c.order-item.is });
        replied = c.in_ok-answer.ensures.replied;
        register = c.in_ok-answer.ensures.after;
        table = c.in_ok-answer.ensures.table;
        answers = c.push_reserved.ensures.items;
        cuts = c.keep_cut.ensures.kept;
      });
      answers_stored = omega (arith, done.answers_stored, c.push_reserved.ensures.len);
      cuts_stored = omega (arith, done.cuts_stored, c.keep_cut.ensures.count);
      answers_fit = search rules;
      cuts_fit = search rules;
    }
