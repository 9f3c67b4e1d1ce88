use Rattle.std.proofs.Common.{◌≡◌, drop}
use Rattle.c_values.specs.Given.{given_opening}
use Rattle.c_values.proofs.OpeningFacts.{after}
use Rattle.c_values.proofs.entries.opening_of.Given as goal

abbrev pub invariant-loop-index : goal.invariant-loop-index
invariant-loop-index l = given_opening l.entries ≡ after l.members.items (given_opening (drop l.index l.entries))
