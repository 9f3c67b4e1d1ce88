use Rattle.board_share.proofs.Headline.{headline, explained, places}
use Rattle.board_share.proofs.laws.headline_law.Goals as goal

pub returns-clause-history : goal.returns-clause-history
returns-clause-history c = λ origin s ledger holds. headline origin s ledger holds

pub returns-clause-calls : goal.returns-clause-calls
returns-clause-calls c = λ origin s ledger holds. explained origin s ledger holds

pub returns-clause-places : goal.returns-clause-places
returns-clause-places c = λ h events. places h events
