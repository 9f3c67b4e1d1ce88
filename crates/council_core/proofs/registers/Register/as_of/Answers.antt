use Rattle.std.proofs.Common.{◌≡◌, ℕ, ◌<◌, length, Ok, Err, sym, ◌∙◌, ap, subst, arith}
use Rattle.std.proofs.lemmas.Result.{err_from_is_err_and}
use Rattle.council_core.specs.Ledgers.{Ledger, ledger_as_of, verdict_of}
use Rattle.council_core.specs.Verdicts.{Follows}
use Rattle.council_core.specs.declared.refusals.Refusal.TheVariants.{OutOfMemory}
use Rattle.council_core.proofs.RegisterLemmas.{accepted_again}
use Rattle.council_core.proofs.registers.Register.as_of.Goals as goal

pub returns-in_err-apply-clause-memory : goal.returns-in_err-apply-clause-memory
returns-in_err-apply-clause-memory c =
    let i = c.self.inside in
    let l : Ledger = record { opening = i.opening.items; journal = i.journal.items; limit = i.limit } in
    let command = c.index.result.now in
    let within : c.loop-index.index < length i.journal.items = omega (arith, c.len.ensures, c.min-count.ensures, c.loop-index-test.true) in
    let copied : c.loop-index.copy ≡ ledger_as_of l c.loop-index.index = c.loop-index.invariant ∙ ap (λ v. ledger_as_of v c.loop-index.index) (sym c.self.view_is) in
    let accepted : verdict_of c.loop-index.copy command ≡ Ok tt =
    ap (λ v. verdict_of v command) copied ∙ accepted_again l c.loop-index.index command c.self.invariant.legal c.self.invariant.within within c.index.ensures in
    let p = err_from_is_err_and c.from_residual-in_err-apply.result c.from_residual-in_err-apply.ensures.1 in
    rw p.1 (p.2 ∙ subst (λ v. Follows {B = ℕ} v (Err c.in_err-apply.field-0.0) OutOfMemory) accepted c.in_err-apply.ensures.verdict)
