-- What an audit finds of legal records.
use Rattle.std.proofs.Common.{◌≡◌, ◌∷◌, inl, inr, ℕ, List, Ok, Err}
use Rattle.council_core.specs.Ledgers.{start_verdict}
use Rattle.council_core.specs.Rolls.{Opening}
use Rattle.council_core.specs.Sequential.{AreLegalRecords}
use Rattle.council_core.specs.declared.commands.Command.{Command}
use Rattle.board_audits.specs.AuditLaws.{AuditLaw}
use Rattle.board_audits.specs.Audits.{AnswersFinding, Finding, audit_of}
use Rattle.board_audits.specs.declared.audits.AuditFault.{AuditFault}
use Rattle.board_audits.specs.declared.audits.AuditFault.TheVariants as found

answered : (finding : Finding) (fault : AuditFault) → finding ≡ Ok tt → AnswersFinding finding (Err fault) → fault ≡ found.OutOfMemory
answered (Ok u) fault none (inl e) = cc e
answered (Ok u) fault none (inr e) = cc e
answered (Err f) fault none a = cc none

-- nothing is at fault, so an error is that memory ran out
pub finds-nothing : AuditLaw → (opening : Opening) (journal : List Command) (cuts : List ℕ) (readings : List (List (List ℕ))) → start_verdict opening 1000000 ≡ Ok tt
    → AreLegalRecords opening journal (0 ∷ cuts) readings → (fault : AuditFault) → AnswersFinding (audit_of opening journal cuts readings) (Err fault) → fault ≡ found.OutOfMemory
finds-nothing law opening journal cuts readings starts legal fault = answered (audit_of opening journal cuts readings) fault ((law opening journal cuts readings).1 (starts, legal))
