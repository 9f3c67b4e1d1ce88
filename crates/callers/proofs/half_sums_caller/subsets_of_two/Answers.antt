use Rattle.std.proofs.Common.{rules}
use Rattle.std.specs.List.{IsDistinct}
use Rattle.callers.proofs.half_sums_caller.subsets_of_two.Goals as goal

pub rebuild-requires-clause-distinct : goal.rebuild-requires-clause-distinct
unfolding IsDistinct
rebuild-requires-clause-distinct c = search rules
