use Rattle.std.proofs.Common.{subst}
use Rattle.council_core.specs.Ledgers.{Ledger, sheet_of}
use Rattle.council_core.specs.Sheets.{IsSheet}
use Rattle.council_core.proofs.LawLemmas.{sheet_kept}
use Rattle.council_core.proofs.MirrorLemmas.{kept_of}
use Rattle.council_core.proofs.registers.Register.journal.Goals as goal

pub returns-clause-in_range : goal.returns-clause-in_range
returns-clause-in_range c =
    subst (λ (l : Ledger). IsSheet (sheet_of l)) c.self.view_is (sheet_kept _ (kept_of c.self.inside) c.self.invariant)
