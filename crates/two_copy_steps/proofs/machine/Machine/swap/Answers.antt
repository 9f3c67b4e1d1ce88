use Rattle.two_copy_steps.proofs.Names.{arith}
use Rattle.two_copy_steps.proofs.Steps.{swapped_at, wrote_stays}
use Rattle.two_copy_steps.proofs.machine.Machine.swap.Goals as goal

pub invariant_of-self : goal.invariant_of-self
invariant_of-self c =
    wrote_stays _ _ _ _ _ _ _ _ c.self.invariant _ c.self.view_is _ _ _ _ _ _
    (swapped_at _ _ _ _ _ _ _ _ c.self.invariant _ c.self.view_is _ _ _ c.requires c.store.ensures (omega arith) c.clear.ensures)
    (let within = c.self.invariant.staged_within in omega arith)

pub returns : goal.returns
returns c = swapped_at _ _ _ _ _ _ _ _ c.self.invariant _ c.self.view_is _ _ _ c.requires c.store.ensures (omega arith) c.clear.ensures
