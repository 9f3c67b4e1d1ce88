use Rattle.two_copy_steps.proofs.Names.{length}
use Rattle.two_copy_steps.proofs.flags.+first_false.Given as goal

abbrev pub decreases-first_false : goal.decreases-first_false
decreases-first_false l = length l.flags.now
