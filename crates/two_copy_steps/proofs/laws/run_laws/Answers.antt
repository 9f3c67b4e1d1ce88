use Rattle.two_copy_steps.proofs.EventLists.{ledger_records, run_apart, run_answers}
use Rattle.two_copy_steps.proofs.Fresh.{run_fresh}
use Rattle.two_copy_steps.proofs.laws.run_laws.Goals as goal

pub returns-clause-records : goal.returns-clause-records
returns-clause-records c = λ ledger readers k events. ledger_records ledger readers k events

pub returns-clause-apart : goal.returns-clause-apart
returns-clause-apart c = λ ledger readers k events. run_apart ledger readers k.legal.0 events

pub returns-clause-replies : goal.returns-clause-replies
returns-clause-replies c = λ ledger readers k events. run_answers ledger readers k.legal.0 events

pub returns-clause-fresh : goal.returns-clause-fresh
returns-clause-fresh c = λ ledger readers k events more r words rest reported. run_fresh ledger readers k.legal.0 events more r words rest reported
