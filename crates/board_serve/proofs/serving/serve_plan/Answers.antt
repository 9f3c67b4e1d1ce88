use Rattle.std.proofs.Common.{ap, ◌∙◌, ◌∷◌, [], map}
use Rattle.std.proofs.lemmas.Result.{err_from_is_err_and}
use Rattle.council_core.specs.Sequential.{answered}
use Rattle.board_serve.proofs.ServeFacts.{Audited, held-serve, held-unfailed, report-failed, stopped-serve, whole-serve}
use Rattle.board_serve.proofs.serving.serve_plan.Goals as goal

pub returns-in_err-done-clause-wrote : goal.returns-in_err-done-clause-wrote
returns-in_err-done-clause-wrote g c =
    let p = err_from_is_err_and c.from_residual.result c.from_residual.ensures.1 in
    rw p.1 (held-serve c.args.out.now.contents c.in_err-done.field-0.0 p.0 c.args.plan p.2 c.in_err-done.ensures.stopped)

pub returns-in_err-done-clause-write_fault : goal.returns-in_err-done-clause-write_fault
returns-in_err-done-clause-write_fault g c =
    let p = err_from_is_err_and c.from_residual.result c.from_residual.ensures.1 in
    rw p.1 (held-unfailed c.args.out.now c.in_err-done.field-0.0 p.0 c.args.plan p.2 c.in_err-done.ensures.stopped)

pub returns-in_err-report-clause-write_fault : goal.returns-in_err-report-clause-write_fault
returns-in_err-report-clause-write_fault g c =
    let p = err_from_is_err_and c.from_residual-in_err-report.result c.from_residual-in_err-report.ensures.1 in
    rw p.1 (report-failed c.report.new.out c.in_err-report.field-0.0 p.0 p.2 c.in_err-report.ensures.causes)

pub returns-in_err-report-clause-wrote : goal.returns-in_err-report-clause-wrote
returns-in_err-report-clause-wrote g c =
    let p = err_from_is_err_and c.from_residual-in_err-report.result c.from_residual-in_err-report.ensures.1 in
    let performed = c.in_ok-done in
    let counts = c.counts-counts.result.0 ∷ c.counts-counts.result.1 ∷ [] in
    let done : Audited c.args.plan performed.done.served performed.done.legal c.as_slice.result.now counts = record {
      served = performed.ensures.done.served;
      records = performed.ensures.legal.0;
      differs = λ no is. let yes = performed.ensures.legal.1 is in cc (no, yes);
      replies = ap (map answered) c.as_slice.ensures.value ∙ performed.ensures.done.replies;
      counted = c.counts-counts.ensures.same;
    } in
    rw p.1 (stopped-serve c.args.out.now.contents c.report.new.out.contents c.args.plan performed.done.served performed.done.legal c.as_slice.result.now counts done
    c.report.new.out c.in_err-report.field-0.0 p.0 p.2 c.in_err-report.ensures.causes c.in_err-report.ensures.wrote)

pub returns-clause-wrote : goal.returns-clause-wrote
returns-clause-wrote g c =
    let performed = c.in_ok-done in
    let counts = c.counts-counts.result.0 ∷ c.counts-counts.result.1 ∷ [] in
    let done : Audited c.args.plan performed.done.served performed.done.legal c.as_slice.result.now counts = record {
      served = performed.ensures.done.served;
      records = performed.ensures.legal.0;
      differs = λ no is. let yes = performed.ensures.legal.1 is in cc (no, yes);
      replies = ap (map answered) c.as_slice.ensures.value ∙ performed.ensures.done.replies;
      counted = c.counts-counts.ensures.same;
    } in
    whole-serve c.args.out.now.contents c.report.new.out.contents c.args.plan performed.done.served performed.done.legal c.as_slice.result.now counts done tt c.in_ok-report.ensures.wrote
