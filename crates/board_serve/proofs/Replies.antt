-- The replies of the sequential register, in short: for worked cases.
use Rattle.std.proofs.Common.{ℕ}
use Rattle.council_core.specs.Sequential.{Reply, answered}
use Rattle.council_core.specs.declared.calls.Answer.TheVariants as answer
use Rattle.council_core.specs.declared.refusals.Refusal.{Refusal}

abbrev pub accepted : ℕ → Reply
accepted count = answered (answer.Accepted count)

abbrev pub refused : Refusal → Reply
refused why = answered (answer.Refused why)

abbrev pub published : ℕ → Reply
published front = answered (answer.Published front)
