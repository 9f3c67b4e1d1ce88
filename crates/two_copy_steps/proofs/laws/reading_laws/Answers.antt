use Rattle.two_copy_steps.proofs.StageFacts.{counted, few_steps, grows, grows_not}
use Rattle.two_copy_steps.proofs.laws.reading_laws.Goals as goal

pub returns-clause-count : goal.returns-clause-count
returns-clause-count c = λ r found stage h. (few_steps stage h, counted r found stage h)

pub returns-clause-growth : goal.returns-clause-growth
returns-clause-growth c = λ r found v h. (grows_not r found v.stage v.readings h, grows r found v.stage v.readings h)
