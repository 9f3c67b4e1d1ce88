use Rattle.std.proofs.Common.{◌≡◌}
use Rattle.council_core.specs.Ledgers.{ledger_as_of}
use Rattle.council_core.proofs.registers.Register.as_of.Given as goal

abbrev pub invariant-loop-index : goal.invariant-loop-index
invariant-loop-index l = l.copy ≡ ledger_as_of l.self l.index
