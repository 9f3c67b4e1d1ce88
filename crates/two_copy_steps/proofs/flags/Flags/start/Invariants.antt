use Rattle.two_copy_steps.proofs.Names.{replicate, true, ◌≡◌}
use Rattle.two_copy_steps.proofs.flags.Flags.start.Given as goal

abbrev pub invariant-loop-reader : goal.invariant-loop-reader
invariant-loop-reader l = l.flags.items ≡ replicate l._reader true
