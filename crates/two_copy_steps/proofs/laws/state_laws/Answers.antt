use Rattle.two_copy_steps.proofs.StateFacts.{state_records, state_apart, state_known}
use Rattle.two_copy_steps.proofs.laws.state_laws.Goals as goal

pub returns-clause-records : goal.returns-clause-records
returns-clause-records c = λ opening s l. state_records opening s l

pub returns-clause-apart : goal.returns-clause-apart
returns-clause-apart c = λ opening s l. state_apart opening s l

pub returns-clause-known : goal.returns-clause-known
returns-clause-known c = λ opening s l r v at. state_known opening s l r v at
