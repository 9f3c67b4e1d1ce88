use Rattle.std.proofs.Common.{◌≡◌, ◌∷◌, ◌+◌, [], length, Ok, Err, ap, ◌∙◌, arith, refl}
use Rattle.std.proofs.lemmas.Result.{err_from_is_err_and}
use Rattle.csv.specs.Records.{fields_of}
use Rattle.board_text.specs.Scripts.{run_in, script_course}
use Rattle.board_text.proofs.RunFacts.{left-as, written-none, written-on, writes-broken, writes-nothing, writes-passed, writes-whole}
use Rattle.board_text.proofs.RecordFacts.{end-as, refused-stops, script-ends, script-goes, script-refused, step-goes, step-stops}
use Rattle.board_text.proofs.FailureFacts.{blames-read, blames-record, blames-write}
use Rattle.board_text.proofs.interpreters.interpret_script.Goals as goal

pub records-init : goal.records-init
records-init g c = record { so_far = written-none _ _; ended = refl; same_output = (refl, refl, omega arith); numbers = c.requires.numbers }

pub returns-then-not-branch-clause-wrote : goal.returns-then-not-branch-clause-wrote
returns-then-not-branch-clause-wrote g c =
    let so_far = c.records.invariant.so_far in
    let none : c.records.script ≡ [] = rw c.if-not-branch.true at c.in_ok-next.ensures.read in
    let end = script-ends (g.I.Interpreter.parsed c.args.limits) g.I.Interpreter.effect c.records.interpreter c.records.number c.records.script none in
    writes-whole c.args.out.now.contents c.records.out.contents c.records.out.contents (Ok c.records.interpreter) _ _ (left-as _ _ _ _ _ so_far (ap run_in end)) (writes-nothing c.records.out.contents c.records.interpreter)

pub returns-then-not-branch-clause-ended : goal.returns-then-not-branch-clause-ended
returns-then-not-branch-clause-ended g c =
    let none : c.records.script ≡ [] = rw c.if-not-branch.true at c.in_ok-next.ensures.read in
    c.records.invariant.ended ∙ end-as (script-ends (g.I.Interpreter.parsed c.args.limits) g.I.Interpreter.effect c.records.interpreter c.records.number c.records.script none)

pub returns-in-Err-clause-wrote : goal.returns-in-Err-clause-wrote
returns-in-Err-clause-wrote g c =
    let next : c.records.script ≡ fields_of c.next.new.row ∷ c.next.new.self = rw c.if-not-branch.false at c.in_ok-next.ensures.read in
    let end = script-refused (g.I.Interpreter.parsed c.args.limits) g.I.Interpreter.effect c.records.interpreter c.records.number c.records.script _ _ next c.in-Err.why c.in-Err.ensures.same in
    writes-whole {A = Unit {0}} c.args.out.now.contents c.records.out.contents c.records.out.contents (Err c.at.result) _ _ c.records.invariant.so_far
    (refused-stops c.records.out.contents c.at.result _ c.in-Err.why c.records.number c.at.ensures.same end)

pub returns-in_err-carry_out-clause-wrote : goal.returns-in_err-carry_out-clause-wrote
returns-in_err-carry_out-clause-wrote g c =
    let so_far = c.records.invariant.so_far in
    let next : c.records.script ≡ fields_of c.next.new.row ∷ c.next.new.self = rw c.if-not-branch.false at c.in_ok-next.ensures.read in
    let goes = script-goes (g.I.Interpreter.parsed c.args.limits) g.I.Interpreter.effect c.records.interpreter c.records.number c.records.script _ _ next c.in-Ok.asked c.in-Ok.ensures.same in
    let p = err_from_is_err_and c.from_residual-in_err-carry_out.result c.from_residual-in_err-carry_out.ensures.1 in
    rw p.1 (writes-passed _ _ c.in_err-carry_out.field-0.0 p.0 _ p.2
    (writes-whole {A = Unit {0}} c.args.out.now.contents c.records.out.contents c.carry_out.new.out.contents (Err c.in_err-carry_out.field-0.0) _ _ (left-as _ _ _ _ _ so_far (ap run_in goes))
    (step-stops c.records.out.contents c.carry_out.new.out.contents (g.I.Interpreter.effect c.records.interpreter c.in-Ok.asked)
    (λ x. script_course (g.I.Interpreter.parsed c.args.limits) g.I.Interpreter.effect x (c.records.number + 1) c.next.new.self) c.in_err-carry_out.field-0.0 c.in_err-carry_out.ensures.wrote)))

pub records-preserved : goal.records-preserved
records-preserved g c =
    let so_far = c.records.invariant.so_far in
    let next : c.records.script ≡ fields_of c.next.new.row ∷ c.next.new.self = rw c.if-not-branch.false at c.in_ok-next.ensures.read in
    let goes = script-goes (g.I.Interpreter.parsed c.args.limits) g.I.Interpreter.effect c.records.interpreter c.records.number c.records.script _ _ next c.in-Ok.asked c.in-Ok.ensures.same in
    let more = step-goes c.records.out.contents c.carry_out.new.out.contents (g.I.Interpreter.effect c.records.interpreter c.in-Ok.asked)
    (λ x. script_course (g.I.Interpreter.parsed c.args.limits) g.I.Interpreter.effect x (c.records.number + 1) c.next.new.self) tt c.carry_out.new.self
    c.in_ok-carry_out.ensures.wrote c.in_ok-carry_out.ensures.state in
    record {
      so_far = written-on c.args.out.now.contents c.records.out.contents c.carry_out.new.out.contents _ _ _ (left-as _ _ _ _ _ so_far (ap run_in goes)) more.0;
      ended = c.records.invariant.ended ∙ end-as goes ∙ more.1;
      same_output = (c.in_ok-carry_out.ensures.same_output.0 ∙ c.records.invariant.same_output.0, c.in_ok-carry_out.ensures.same_output.1 ∙ c.records.invariant.same_output.1, omega (arith, c.records.invariant.same_output.2, c.in_ok-carry_out.ensures.same_output.2));
      numbers = let fewer = ap length next in omega arith;
    }

pub returns-in_err-next-clause-wrote : goal.returns-in_err-next-clause-wrote
returns-in_err-next-clause-wrote g c =
    let so_far = c.records.invariant.so_far in
    let p = err_from_is_err_and c.from_residual.result c.from_residual.ensures.1 in
    rw p.1 (writes-passed _ _ c.in_err-next.field-0.0 p.0 _ p.2 (writes-broken _ _ c.in_err-next.field-0.0 _ _ c.in_err-next.ensures.causes so_far))

pub returns-in-Err-clause-write_fault : goal.returns-in-Err-clause-write_fault
returns-in-Err-clause-write_fault g c = blames-record c.records.out _ _ c.at.ensures.same

pub returns-in_err-carry_out-clause-write_fault : goal.returns-in_err-carry_out-clause-write_fault
returns-in_err-carry_out-clause-write_fault g c =
    let p = err_from_is_err_and c.from_residual-in_err-carry_out.result c.from_residual-in_err-carry_out.ensures.1 in
    rw p.1 (blames-write c.carry_out.new.out c.in_err-carry_out.field-0.0 p.0 p.2 c.in_err-carry_out.ensures.causes)

pub returns-in_err-next-clause-write_fault : goal.returns-in_err-next-clause-write_fault
returns-in_err-next-clause-write_fault g c =
    let p = err_from_is_err_and c.from_residual.result c.from_residual.ensures.1 in
    rw p.1 (blames-read c.records.out c.in_err-next.field-0.0 p.0 p.2 c.in_err-next.ensures.causes)
