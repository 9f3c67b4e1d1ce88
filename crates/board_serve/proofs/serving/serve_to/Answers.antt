use Rattle.std.proofs.Common.{Result, ap, subst, sym}
use Rattle.std.proofs.lemmas.Result.{err_from_is_err_and}
use Rattle.board_text.specs.Scripts.{interpreted_course}
use Rattle.board_text.specs.Text.{request_within, started_of, text_of}
use Rattle.board_text.specs.declared.faults.Fault.{Fault}
use Rattle.board_text.proofs.Face.{appends-same, reads-on, run-passed}
use Rattle.board_text.specs.Streams.{IsReadFault}
use Rattle.board_serve.specs.Plans.{Planned, plan_effect, plan_of, plan_start, two_readers}
use Rattle.board_serve.specs.Serving.{WritesServeRun}
use Rattle.board_serve.proofs.PlanFacts.{plan-lines}
use Rattle.board_serve.proofs.ServeFacts.{after-nothing, fails-serve}
use Rattle.board_serve.proofs.serving.serve_to.Goals as goal

pub returns-in_err-plan-clause-wrote : goal.returns-in_err-plan-clause-wrote
returns-in_err-plan-clause-wrote g c = λ bytes is.
    let p = err_from_is_err_and c.from_residual.result c.from_residual.ensures.1 in
    let lim = two_readers c.args.journal_limit in
    rw p.1 (fails-serve c.args.out.now.contents c.interpret.new.out.contents c.in_err-plan.field-0.0 p.0 (interpreted_course plan_start request_within plan_effect lim bytes) p.2
    (plan-lines lim (started_of lim bytes)) (c.in_err-plan.ensures.wrote bytes is))

pub returns-clause-wrote : goal.returns-clause-wrote
returns-clause-wrote g c = λ bytes is.
    let lim = two_readers c.args.journal_limit in
    let nothing = appends-same _ _ _ _ (ap text_of (plan-lines lim (started_of lim bytes))) (c.in_ok-plan.ensures.wrote bytes is).1 in
    let P : Result Planned Fault → Type 0 = WritesServeRun c.interpret.new.out.contents c.serve_plan.new.out.contents c.serve_plan.result in
    after-nothing c.args.out.now.contents c.interpret.new.out.contents c.serve_plan.new.out.contents c.serve_plan.result (plan_of c.args.journal_limit bytes) nothing
    (subst P (sym (c.in_ok-plan.ensures.ended bytes is)) c.serve_plan.ensures.wrote)

pub returns-in_err-plan-clause-reads : goal.returns-in_err-plan-clause-reads
returns-in_err-plan-clause-reads g c =
    let p = err_from_is_err_and c.from_residual.result c.from_residual.ensures.1 in
    rw p.1 (run-passed c.args.input.now.calls c.interpret.new.input.calls IsReadFault c.in_err-plan.field-0.0 p.0 p.2 c.in_err-plan.ensures.reads)

pub returns-clause-reads : goal.returns-clause-reads
returns-clause-reads g c = reads-on c.args.input.now.calls c.interpret.new.input.calls IsReadFault c.in_ok-plan.plan c.serve_plan.result c.in_ok-plan.ensures.reads
