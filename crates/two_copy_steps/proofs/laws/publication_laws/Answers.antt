use Rattle.two_copy_steps.proofs.PublicationFacts.{busy_is, stay_is, at_once_is}
use Rattle.two_copy_steps.proofs.laws.publication_laws.Goals as goal

pub returns-clause-busy : goal.returns-clause-busy
returns-clause-busy c = λ m aux l event number reported. busy_is m aux l event number reported

pub returns-clause-stay : goal.returns-clause-stay
returns-clause-stay c = λ m event h. stay_is m event h

pub returns-clause-at_once : goal.returns-clause-at_once
returns-clause-at_once c = λ m all began. at_once_is m all began
