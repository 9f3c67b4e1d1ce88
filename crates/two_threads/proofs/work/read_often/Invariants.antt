use Rattle.std.proofs.Common.{◌≡◌, vec_len}
use Rattle.two_copy_steps.specs.declared.views.Stage.TheVariants.{AtRest}
use Rattle.two_threads.proofs.ReadingFacts.{HasRead}
use Rattle.two_threads.proofs.work.read_often.Given as goal

abbrev pub invariant-loop-reading : goal.invariant-loop-reading
invariant-loop-reading l = record {
  rest : l.reader.stage ≡ AtRest;
  count : vec_len l.sheets ≡ l._reading;
  read : HasRead l.fn.reader.opening l.reader l.sheets.items;
}
