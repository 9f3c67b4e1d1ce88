use Rattle.std.proofs.Common.{◌-◌, ◌+◌, replicate, arith}
use Rattle.c_values.specs.Counts.{no_chair}
use Rattle.c_values.specs.Rows.{without_indices}
use Rattle.c_values.proofs.RowLemmas.{first_left, next_image}
use Rattle.c_values.proofs.counts.rows_for.Goals as goal

pub loop-index-preserved : goal.loop-index-preserved
loop-index-preserved c =
    let at = c.loop-index.index in
    let next = next_image without_indices c.args.rows.now at c.index-rows-index.result no_chair (replicate (32 - (at + 1)) no_chair) (omega arith) c.index-rows-index.is in
    rw (c.loop-index.invariant, first_left 32 at no_chair (omega arith), c.chair_row_for.ensures) next
