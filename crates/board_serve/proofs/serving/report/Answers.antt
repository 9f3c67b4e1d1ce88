use Rattle.std.proofs.Common.{rules, [], ◌∷◌, Err}
use Rattle.std.proofs.lemmas.Result.{err_from_is_err_and}
use Rattle.board_serve.proofs.ServeFacts.{answers-stop, audit-plays, audit-then, counts-stop, mismatch-plays}
use Rattle.board_serve.proofs.serving.report.Goals as goal

pub returns-in_err-write_answers-clause-wrote : goal.returns-in_err-write_answers-clause-wrote
returns-in_err-write_answers-clause-wrote g c =
    let p = err_from_is_err_and c.from_residual.result c.from_residual.ensures.1 in
    rw p.1 (answers-stop c.args.answers.now (c.args.counts.0 ∷ c.args.counts.1 ∷ []) c.args.legal _ _ c.in_err-write_answers.field-0.0 p.0 p.2 c.in_err-write_answers.ensures.wrote)

pub returns-in_err-write_counts-clause-wrote : goal.returns-in_err-write_counts-clause-wrote
returns-in_err-write_counts-clause-wrote g c =
    let p = err_from_is_err_and c.from_residual-in_err-write_counts.result c.from_residual-in_err-write_counts.ensures.1 in
    rw p.1 (counts-stop c.args.answers.now (c.args.counts.0 ∷ c.args.counts.1 ∷ []) c.args.legal _ _ _ tt c.in_err-write_counts.field-0.0 p.0 p.2 c.in_ok-write_answers.ensures.wrote c.in_err-write_counts.ensures.wrote)

pub returns-then-not-legal-clause-wrote : goal.returns-then-not-legal-clause-wrote
returns-then-not-legal-clause-wrote g c =
    audit-then c.args.answers.now (c.args.counts.0 ∷ c.args.counts.1 ∷ []) c.args.legal c.args.out.now.contents c.write_answers.new.out.contents c.write_counts.new.out.contents c.write_counts.new.out.contents tt tt (Err c.at.result) c.in_ok-write_answers.ensures.wrote c.in_ok-write_counts.ensures.wrote
    (mismatch-plays c.write_counts.new.out.contents c.args.legal c.at.result (search rules) c.at.ensures.same)

pub returns-clause-wrote : goal.returns-clause-wrote
returns-clause-wrote g c =
    audit-then c.args.answers.now (c.args.counts.0 ∷ c.args.counts.1 ∷ []) c.args.legal _ _ _ _ tt tt c.write_line.result c.in_ok-write_answers.ensures.wrote c.in_ok-write_counts.ensures.wrote
    (audit-plays _ _ c.args.legal c.write_line.result c.line_of_audit.result (search rules) c.line_of_audit.ensures.text c.write_line.ensures.written)
