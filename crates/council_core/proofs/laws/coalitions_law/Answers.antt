use Rattle.council_core.proofs.CoalitionLemmas.{each_once, length-subsets}
use Rattle.council_core.proofs.laws.coalitions_law.Goals as goal

pub returns-clause-number : goal.returns-clause-number
returns-clause-number c = length-subsets

pub returns-clause-each_once : goal.returns-clause-each_once
returns-clause-each_once c = each_once
