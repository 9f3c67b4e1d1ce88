use Rattle.std.proofs.Common.{inl, inr, Some, Ok, Err, map, refl, subst}
use Rattle.std.proofs.KnownBytes.{Keeps-refl}
use Rattle.std.specs.String.{string_bytes}
use Rattle.board_report.specs.declared.calls.Invocation.{Invocation}
use Rattle.board_report.specs.Programs.{CallEnds}
use Rattle.board_report.proofs.CallFacts.{run-reads}
use Rattle.board_report.proofs.WordFacts.{asked-answer, one-call}
use Rattle.board_report.proofs.programs.program.Goals as goal

pub returns-in-Err-clause-calls : goal.returns-in-Err-clause-calls
returns-in-Err-clause-calls g c = λ call asks bytes is. inr (inr (c.explain.ensures.memory (asked-answer (map string_bytes c.args.words.now) call asks c.in-Err.why c.in-Err.ensures.answers)))

pub returns-in-Err-clause-answers : goal.returns-in-Err-clause-answers
returns-in-Err-clause-answers g c = inr (c.explain.ensures.answered (map string_bytes c.args.words.now) c.in-Err.ensures.answers)

pub returns-in-Ok-run-clause-calls : goal.returns-in-Ok-run-clause-calls
returns-in-Ok-run-clause-calls g c = λ call asks bytes is.
    let same = one-call (map string_bytes c.args.words.now) c.in-Ok.call call c.in-Ok.ensures.answers asks in
    let P : Invocation → Type 0 = λ x. CallEnds x bytes (g.W.Recorder.recorded c.args.out.now) (g.W.Recorder.recorded c.run.new.out) (Ok tt) in
    inl (refl, subst P same (c.in-Ok-run.ensures.ends bytes is), Keeps-refl (Some (g.E.Recorder.recorded c.args.err.now).bytes))

pub returns-in-Ok-run-clause-answers : goal.returns-in-Ok-run-clause-answers
returns-in-Ok-run-clause-answers g c = inl (c.in-Ok.call, c.in-Ok.ensures.answers, λ bytes is. inl (refl, c.in-Ok-run.ensures.ends bytes is, Keeps-refl (Some (g.E.Recorder.recorded c.args.err.now).bytes)))

pub returns-in-Ok-run-clause-unread : goal.returns-in-Ok-run-clause-unread
returns-in-Ok-run-clause-unread g c = λ none. absurd (none c.in-Ok.call c.in-Ok.ensures.answers)

pub returns-in-Err-run-clause-calls : goal.returns-in-Err-run-clause-calls
returns-in-Err-run-clause-calls g c = λ call asks bytes is.
    let same = one-call (map string_bytes c.args.words.now) c.in-Ok.call call c.in-Ok.ensures.answers asks in
    let P : Invocation → Type 0 = λ x. CallEnds x bytes (g.W.Recorder.recorded c.args.out.now) (g.W.Recorder.recorded c.run.new.out) (Err c.in-Err-run.fault) in
    inr (inl (c.fail.ensures.status, (c.in-Err-run.fault, subst P same (c.in-Err-run.ensures.ends bytes is), c.fail.ensures.said)))

pub returns-in-Err-run-clause-answers : goal.returns-in-Err-run-clause-answers
returns-in-Err-run-clause-answers g c = inl (c.in-Ok.call, c.in-Ok.ensures.answers, λ bytes is. inr (inl (c.fail.ensures.status, (c.in-Err-run.fault, c.in-Err-run.ensures.ends bytes is, c.fail.ensures.said))))

pub returns-in-Err-run-clause-unread : goal.returns-in-Err-run-clause-unread
returns-in-Err-run-clause-unread g c = λ none. absurd (none c.in-Ok.call c.in-Ok.ensures.answers)

pub returns-in-Ok-run-clause-reads : goal.returns-in-Ok-run-clause-reads
returns-in-Ok-run-clause-reads g c = run-reads c.args.input.now.calls c.run.new.input.calls c.run.result c.run.ensures.reads

pub returns-in-Err-run-clause-reads : goal.returns-in-Err-run-clause-reads
returns-in-Err-run-clause-reads g c = run-reads c.args.input.now.calls c.run.new.input.calls c.run.result c.run.ensures.reads
