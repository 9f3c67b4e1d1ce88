use Rattle.two_copy_steps.proofs.Steps.{filled_at, wrote_stays}
use Rattle.two_copy_steps.proofs.machine.Machine.fill.Goals as goal

pub invariant_of-self : goal.invariant_of-self
invariant_of-self c =
    wrote_stays _ _ _ _ _ _ _ _ c.self.invariant _ c.self.view_is _ _ _ _ _ _
    (filled_at _ _ _ _ _ _ _ _ c.self.invariant _ c.self.view_is _ _ _ _ _ c.requires c.words.ensures.same c.copy_word.ensures.same c.store.ensures c.phase_past-self-inside.ensures)
    c.self.invariant.published_within

pub returns : goal.returns
returns c = filled_at _ _ _ _ _ _ _ _ c.self.invariant _ c.self.view_is _ _ _ _ _ c.requires c.words.ensures.same c.copy_word.ensures.same c.store.ensures c.phase_past-self-inside.ensures
