use Rattle.std.proofs.Common.{◌∙◌, ap, sym}
use Rattle.council_core.specs.Ledgers.{Ledger, ledger_as_of, sheet_of}
use Rattle.council_core.proofs.PublishedLemmas.{shows-first}
use Rattle.council_core.proofs.published.PublishedRegister.undo_to.Goals as goal

pub invariant_of-self : goal.invariant_of-self
invariant_of-self c =
    let back = c.take_back-self-inside in
    shows-first back.new.self back.result c.min-front.result
    (back.ensures.same ∙ ap (λ (l : Ledger). sheet_of (ledger_as_of l c.min-front.result)) (sym back.ensures.taken_back))
    back.ensures.in_range
