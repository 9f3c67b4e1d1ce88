use Rattle.two_copy_steps.proofs.Names.{ap, get_or, length, subst, sym, ℕ, ◌<◌, ◌∙◌}
use Rattle.two_copy_steps.proofs.Steps.{first_at, gave_up_at, saw_out_at, wrote_stays}
use Rattle.two_copy_steps.proofs.machine.Machine.see.Goals as goal

pub load-requires : goal.load-requires
load-requires c =
    let h = (first_at _ _ _ _ _ _ _ _ c.self.invariant _ c.self.view_is c.requires _ c.first_false-r.ensures.first).1 in
    record { within = subst (λ (x : ℕ). x < length c.self.inside.table) (sym c.pin.ensures.same) h }

pub returns-then-load-ne0 : goal.returns-then-load-ne0
returns-then-load-ne0 c =
    gave_up_at _ _ _ _ _ _ _ _ c.self.invariant _ c.self.view_is c.requires _ _ c.first_false-r.ensures.first (c.load.ensures ∙ ap (λ (x : ℕ). get_or c.self.inside.table x 0) c.pin.ensures.same) c.if-load-ne0.true

pub invariant_of-self : goal.invariant_of-self
invariant_of-self c =
    wrote_stays _ _ _ _ _ _ _ _ c.self.invariant _ c.self.view_is _ _ _ _ _ _
    (gave_up_at _ _ _ _ _ _ _ _ c.self.invariant _ c.self.view_is c.requires _ _ c.first_false-r.ensures.first (c.load.ensures ∙ ap (λ (x : ℕ). get_or c.self.inside.table x 0) c.pin.ensures.same) c.if-load-ne0.true)
    c.self.invariant.published_within

pub set-requires : goal.set-requires
set-requires c = record { within = (first_at _ _ _ _ _ _ _ _ c.self.invariant _ c.self.view_is c.requires _ c.first_false-r.ensures.first).0 }

pub invariant_of-self-2 : goal.invariant_of-self-2
invariant_of-self-2 c =
    wrote_stays _ _ _ _ _ _ _ _ c.self.invariant _ c.self.view_is _ _ _ _ _ _
    (saw_out_at _ _ _ _ _ _ _ _ c.self.invariant _ c.self.view_is c.requires _ _ _ _ c.first_false-r.ensures.first (c.load.ensures ∙ ap (λ (x : ℕ). get_or c.self.inside.table x 0) c.pin.ensures.same) c.if-load-ne0.false c.set.ensures c.phase_after-self-inside.ensures)
    c.self.invariant.published_within

pub returns : goal.returns
returns c =
    saw_out_at _ _ _ _ _ _ _ _ c.self.invariant _ c.self.view_is c.requires _ _ _ _ c.first_false-r.ensures.first (c.load.ensures ∙ ap (λ (x : ℕ). get_or c.self.inside.table x 0) c.pin.ensures.same) c.if-load-ne0.false c.set.ensures c.phase_after-self-inside.ensures
