use Rattle.two_copy_steps.proofs.Names.{length}
use Rattle.two_copy_steps.proofs.flags.+all_true.Given as goal

abbrev pub decreases-all_true : goal.decreases-all_true
decreases-all_true l = length l.flags.now
