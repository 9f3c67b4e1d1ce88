use Rattle.two_copy_steps.proofs.Names.{ap, arith, Began, is_idle, MachineState, Publish, seen_as, sym, transition, ◌∙◌}
use Rattle.two_copy_steps.proofs.Names.{◌≡◌}
use Rattle.two_copy_steps.proofs.Steps.{begun_in, publishable, publish_stays}
use Rattle.two_copy_steps.proofs.machine.Machine.begin.Goals as goal

began : (c : goal.After-self-2-1) → let i = c.self.inside in
    (seen_as i.register i.table i.side i.published c.sheet-self-inside.result c.phase_after-self-inside.result i.seen_out i.stages, Began)
    ≡ transition (seen_as i.register i.table i.side i.published i.staged i.phase i.seen_out i.stages) Publish
began c =
    let i = c.self.inside in
    let later = c.if-accepted-self.false in
    (λ j. (seen_as i.register i.table i.side i.published (c.sheet-self-inside.ensures.same j) (c.phase_after-self-inside.ensures j) i.seen_out i.stages, Began))
    ∙ begun_in i.register i.table i.side i.published i.staged i.phase i.seen_out i.stages c.self.invariant
    (ap (λ (m : MachineState). is_idle m.writer.phase) c.self.view_is ∙ (sym c.is_idle.ensures ∙ c.if-not-is_idle.false)) (omega arith)

pub invariant_of-self : goal.invariant_of-self
invariant_of-self c =
    publish_stays _ _ _ _ _ _ _ _ c.self.invariant _ _ c.sheet-self-inside.ensures.same (publishable _ _ c.sheet-self-inside.ensures.ledger c.sheet-self-inside.ensures.same c.sheet-self-inside.ensures.in_range) (began c)

pub returns : goal.returns
returns c = began c ∙ ap (λ (m : MachineState). transition m Publish) c.self.view_is
