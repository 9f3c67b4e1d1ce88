use Rattle.std.proofs.Common.{◌≡◌, ◌-◌, ◌++◌, map, take, replicate}
use Rattle.c_values.specs.Counts.{no_chair}
use Rattle.c_values.specs.Rows.{without_indices}
use Rattle.c_values.proofs.counts.rows_for.Given as goal

abbrev pub invariant-loop-index : goal.invariant-loop-index
invariant-loop-index l = l.chairs ≡ map without_indices (take l.index l.rows) ++ replicate (32 - l.index) no_chair
