use Rattle.two_copy_steps.proofs.TransitionFacts.{reader_is}
use Rattle.two_copy_steps.proofs.laws.transition_laws.Goals as goal

pub returns-clause-reader : goal.returns-clause-reader
returns-clause-reader c = λ m aux long r stage at. reader_is m aux long r stage at
