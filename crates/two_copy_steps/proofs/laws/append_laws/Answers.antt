use Rattle.two_copy_steps.proofs.EventLists.{notes_append, after_append}
use Rattle.two_copy_steps.proofs.laws.append_laws.Goals as goal

pub returns-clause-notes : goal.returns-clause-notes
returns-clause-notes c = λ m events more. notes_append events more m

pub returns-clause-machine : goal.returns-clause-machine
returns-clause-machine c = λ m events more. after_append events more m
