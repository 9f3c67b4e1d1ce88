use Rattle.std.proofs.Common.{◌≡◌, take}
use Rattle.two_threads.proofs.work.write_all.Given as goal

abbrev pub invariant-loop-command : goal.invariant-loop-command
invariant-loop-command g l = l.writer.ledger.journal ≡ take l.command-index l.commands
