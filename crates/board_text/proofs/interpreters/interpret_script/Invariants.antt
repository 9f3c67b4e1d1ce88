use Rattle.std.proofs.Common.{◌≡◌, ◌<◌, ◌+◌, ◌^◌, length}
use Rattle.board_text.specs.OutputStates.{IsSameOutput}
use Rattle.board_text.specs.Scripts.{run_in, script_course}
use Rattle.board_text.proofs.RunFacts.{WrittenTo}
use Rattle.board_text.proofs.interpreters.interpret_script.Given as goal

-- of the course of all records, the course of those that are left is left
abbrev pub invariant-records : goal.invariant-records
invariant-records g l = record {
  so_far : WrittenTo l.fn.out.contents l.out.contents
      (run_in (script_course (g.I.Interpreter.parsed l.fn.limits) g.I.Interpreter.effect l.fn.interpreter l.fn.first l.fn.script)) (run_in (script_course (g.I.Interpreter.parsed l.limits) g.I.Interpreter.effect l.interpreter l.number l.script));
  ended : (script_course (g.I.Interpreter.parsed l.fn.limits) g.I.Interpreter.effect l.fn.interpreter l.fn.first l.fn.script).end ≡ (script_course (g.I.Interpreter.parsed l.limits) g.I.Interpreter.effect l.interpreter l.number l.script).end;
  same_output : IsSameOutput l.fn.out l.out;
  numbers : l.number + length l.script < 2 ^ 32;
}

abbrev pub decreases-records : goal.decreases-records
decreases-records g l = length l.script
