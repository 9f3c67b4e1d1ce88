use Rattle.std.proofs.Common.{rules}
use Rattle.std.specs.List.{IsDistinct}
use Rattle.count_tests.proofs.halves.fill_with_ones.Goals as goal

pub rebuild-requires-clause-distinct : goal.rebuild-requires-clause-distinct
unfolding IsDistinct
rebuild-requires-clause-distinct c = search rules
