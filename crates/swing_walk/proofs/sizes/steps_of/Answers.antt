use Rattle.std.proofs.Common.{◌∙◌, ap, cond, get_or, List, ℕ}
use Rattle.std.specs.Prelude.{nat_le}
use Rattle.swing_walk.proofs.SizeLemmas.{own_steps}
use Rattle.swing_walk.proofs.sizes.steps_of.Goals as goal

pub returns-clause-each : goal.returns-clause-each
returns-clause-each c = λ size.
    ap (λ (xs : List ℕ). get_or xs size 0) c.part.ensures.part
    ∙ own_steps c.size-first.result size c.size-first.ensures.bound
    ∙ ap (λ n. cond (nat_le size n) 1 0) c.size-first.ensures.size
