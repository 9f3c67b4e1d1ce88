use Rattle.two_copy_steps.proofs.Names.{AtRest, replicate, ◌≡◌}
use Rattle.two_copy_steps.proofs.readers.ReaderStages.start.Given as goal

abbrev pub invariant-loop-reader : goal.invariant-loop-reader
invariant-loop-reader l = l.stages.items ≡ replicate l._reader AtRest
