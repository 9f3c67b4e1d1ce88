use Rattle.two_copy_steps.proofs.Names.{ap, is_idle, MachineState, Note, seen_as, Submit, subst, sym, transition, ◌∙◌}
use Rattle.two_copy_steps.proofs.Names.{◌≡◌}
use Rattle.std.proofs.Common.{IfOk}
use Rattle.two_copy_steps.proofs.Steps.{handed_machine, handed_transition}
use Rattle.two_copy_steps.proofs.machine.Machine.submit.Goals as goal

pub invariant_of-self : goal.invariant_of-self
invariant_of-self c =
    handed_machine _ _ _ _ _ _ _ _ c.self.invariant _ _ _ (ap (λ (m : MachineState). is_idle m.writer.phase) c.self.view_is ∙ (sym c.is_idle.ensures ∙ c.if-not-is_idle.false))
    c.submit_to.ensures.handed c.submit_to.ensures.unchanged

pub returns-clause-stepped : goal.returns-clause-stepped
returns-clause-stepped c =
    let i = c.self.inside in
    subst (λ (m : MachineState). IfOk c.submit_to.result (λ (note : Note). (seen_as c.submit_to.new.register i.table i.side i.published i.staged i.phase i.seen_out i.stages, note) ≡ transition m (Submit c.args.command))) c.self.view_is
    (handed_transition i.register i.table i.side i.published i.staged i.phase i.seen_out i.stages c.self.invariant c.submit_to.new.register c.args.command c.submit_to.result
    (ap (λ (m : MachineState). is_idle m.writer.phase) c.self.view_is ∙ (sym c.is_idle.ensures ∙ c.if-not-is_idle.false)) c.submit_to.ensures.handed)
