use Rattle.two_copy_steps.proofs.Names.{IsPublishable}
use Rattle.two_copy_steps.proofs.Starts.{start_lawful}
use Rattle.two_copy_steps.proofs.laws.start_law.Goals as goal

pub returns : goal.returns
returns c = record { lawful = λ ledger readers legal. start_lawful IsPublishable ledger readers legal }
