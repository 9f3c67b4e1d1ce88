use Rattle.two_copy_steps.proofs.EventLists.{ledger_records}
use Rattle.two_copy_steps.proofs.ReportedRecords.{run_reported, run_never_older}
use Rattle.two_copy_steps.proofs.laws.record_laws.Goals as goal

pub returns-clause-reported : goal.returns-clause-reported
returns-clause-reported c = λ ledger readers events. run_reported ledger readers events

pub returns-clause-never_older : goal.returns-clause-never_older
returns-clause-never_older c = λ ledger readers k events. run_never_older ledger readers events (ledger_records ledger readers k events).readings
