use Rattle.std.proofs.Common.{◌∙◌, arith}
use Rattle.std.proofs.lemmas.Result.{err_from_is_err_and}
use Rattle.board_runs.proofs.TraceFacts.{after-left, reported-goes, reported-stops}
use Rattle.board_runs.proofs.tracing.carry_out_events.Goals as goal

pub returns-in_err-carry_out_event-clause-wrote : goal.returns-in_err-carry_out_event-clause-wrote
returns-in_err-carry_out_event-clause-wrote g c =
    let so_far = c.loop-turn.invariant.so_far in
    let p = err_from_is_err_and c.from_residual.result c.from_residual.ensures.1 in
    rw p.1 (reported-stops c.loop-turn.machine c.args.event.now c.args.count c.loop-turn._turn c.loop-turn-test.true c.args.out.now.contents c.loop-turn.out.contents c.carry_out_event.new.out.contents
    so_far.0 _ so_far.1 so_far.2 c.in_err-carry_out_event.field-0.0 p.0 p.2 c.in_err-carry_out_event.ensures.wrote)

pub loop-turn-preserved : goal.loop-turn-preserved
loop-turn-preserved g c =
    let so_far = c.loop-turn.invariant.so_far in
    record {
      so_far = reported-goes c.loop-turn.machine c.args.event.now c.args.count c.loop-turn._turn c.loop-turn-test.true c.args.out.now.contents c.loop-turn.out.contents c.carry_out_event.new.out.contents
          so_far.0 _ so_far.1 so_far.2 tt c.carry_out_event.new.machine c.in_ok-carry_out_event.ensures.wrote c.in_ok-carry_out_event.ensures.state;
      state = c.loop-turn.invariant.state
          ∙ after-left c.loop-turn.machine c.args.event.now c.args.count c.loop-turn._turn c.loop-turn-test.true c.carry_out_event.new.machine c.in_ok-carry_out_event.ensures.state;
      same_output = (c.in_ok-carry_out_event.ensures.same_output.0 ∙ c.loop-turn.invariant.same_output.0, c.in_ok-carry_out_event.ensures.same_output.1 ∙ c.loop-turn.invariant.same_output.1, omega (arith, c.loop-turn.invariant.same_output.2, c.in_ok-carry_out_event.ensures.same_output.2));
    }
