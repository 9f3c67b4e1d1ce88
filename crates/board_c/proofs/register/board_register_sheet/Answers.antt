use Rattle.std.proofs.Common.{◌≡◌, Result, refl, rules}
use Rattle.council_core.specs.Sequential.{Sequential}
use Rattle.council_core.specs.Ledgers.{sheet_of}
use Rattle.council_core.specs.declared.refusals.Refusal.{Refusal}
use Rattle.board_c.proofs.HandleFacts.{handle_kept, written_from}
use Rattle.board_c.proofs.register.board_register_sheet.Goals as goal

pub returns-clause-sheet : goal.returns-clause-sheet
returns-clause-sheet c =
    let live : c.state.new.self.state ≡ 1 = search rules in
    written_from _ _ _ (λ (r : Result Sequential Refusal). r) _ _ _ (λ (s : Sequential). c.words_of.result ≡ sheet_of s.ledger)
    c.state.ensures.1 live c.register_of.ensures.value (refl, c.words_of.ensures)

pub returns-clause-unchanged : goal.returns-clause-unchanged
returns-clause-unchanged c = handle_kept _ _ _ c.state.ensures.1 c.register_of.ensures.value
