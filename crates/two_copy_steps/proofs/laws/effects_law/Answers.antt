use Rattle.two_copy_steps.proofs.EffectLists.{one_run}
use Rattle.two_copy_steps.proofs.laws.effects_law.Goals as goal

pub returns : goal.returns
returns c = record { run = λ t m events. one_run events t m }
