use Rattle.std.proofs.Common.{rules}
use Rattle.std.specs.List.{IsDistinct}
use Rattle.memory_tests.proofs.no_growths.list_sets.Goals as goal

pub rebuild-requires-clause-distinct : goal.rebuild-requires-clause-distinct
unfolding IsDistinct
rebuild-requires-clause-distinct c = search rules
