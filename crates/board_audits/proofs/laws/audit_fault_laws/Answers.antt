use Rattle.board_audits.proofs.FirstPlaces.{cuts_fault, journal_fault, readings_fault, start_fault}
use Rattle.board_audits.proofs.laws.audit_fault_laws.Goals as goal

pub returns : goal.returns
returns c = record { start = start_fault; journal = journal_fault; cuts = cuts_fault; readings = readings_fault }
