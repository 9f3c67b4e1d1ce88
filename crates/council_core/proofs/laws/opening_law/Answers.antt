use Rattle.council_core.proofs.StartLemmas.{starts}
use Rattle.council_core.proofs.laws.opening_law.Goals as goal

pub returns : goal.returns
returns c = record { starts = starts }
