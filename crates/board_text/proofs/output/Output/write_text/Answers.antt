use Rattle.std.proofs.Common.{◌≤◌, length, drop, ap, sym, arith, ◌∙◌}
use Rattle.board_text.specs.OutputStates.{OutputState}
use Rattle.std.proofs.lemmas.List.{length-drop}
use Rattle.std.proofs.lemmas.Result.{err_from_is_err_and}
use Rattle.board_text.proofs.WriteFacts.{appends-on, as-first, first-failure, front-and-front, rest-of}
use Rattle.board_text.proofs.output.Output.write_text.Goals as goal

pub returns-in_err-at-clause-written : goal.returns-in_err-at-clause-written
returns-in_err-at-clause-written g c =
    let p = err_from_is_err_and c.from_residual.result c.from_residual.ensures.1 in
    let stopped = c.in_err-at.ensures.accepted in
    rw p.1 (p.2 ∙ stopped.0, front-and-front _ _ _ c.loop-turn.at c.args.text.now c.loop-turn.invariant.front stopped.1)

pub returns-in_err-at-clause-accepts : goal.returns-in_err-at-clause-accepts
returns-in_err-at-clause-accepts g c =
    let p = err_from_is_err_and c.from_residual.result c.from_residual.ensures.1 in
    let live = first-failure c.loop-turn.self c.write_some.new.self c.loop-turn.invariant.live c.in_err-at.ensures.accepts in
    rw p.1 (as-first c.args.self.now c.write_some.new.self (ap (λ (s : OutputState). s.failed) (sym c.self.view_is) ∙ c.if-self.false) (omega (arith, c.loop-turn.invariant.accepts, live)))

pub loop-turn-preserved : goal.loop-turn-preserved
loop-turn-preserved g c =
    let took : c.in_ok-at.field-0 ≤ length (drop c.loop-turn.at c.args.text.now) = rw rest-of at c.in_ok-at.ensures.accepted.0 in
    record {
      front = appends-on _ _ _ c.loop-turn.at c.in_ok-at.field-0 c.args.text.now c.loop-turn.invariant.front c.in_ok-at.ensures.accepted.1;
      within = omega (arith, took, length-drop c.loop-turn.at c.args.text.now, c.loop-turn.invariant.within);
      bound = c.in_ok-at.ensures.bound;
      live = c.in_ok-at.ensures.live;
      same_output = (c.in_ok-at.ensures.same_output.0 ∙ c.loop-turn.invariant.same_output.0, c.in_ok-at.ensures.same_output.1 ∙ c.loop-turn.invariant.same_output.1, omega (arith, c.loop-turn.invariant.same_output.2, c.in_ok-at.ensures.same_output.2));
      turns = omega (arith, c.loop-turn.invariant.turns, c.in_ok-at.ensures.turn);
      asked = omega (arith, c.loop-turn.invariant.asked, c.in_ok-at.ensures.once);
      accepts = omega (arith, c.loop-turn.invariant.accepts, c.in_ok-at.ensures.accepts);
    }
