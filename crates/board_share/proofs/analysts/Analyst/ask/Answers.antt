use Rattle.board_share.proofs.Names.{IsLegalSheet, subst, sym}
use Rattle.board_share.specs.Analysts.{AnalystState}
use Rattle.board_share.proofs.analysts.Analyst.ask.Goals as goal

pub returns-clause-sheet : goal.returns-clause-sheet
returns-clause-sheet c =
    subst (λ (a : AnalystState). IsLegalSheet a.reader.opening c.set-changed.new.self) c.self.view_is
    (subst (IsLegalSheet c.self.inside.reader.opening) (sym c.set-changed.ensures.held) c.read-reading.ensures.sheet)
