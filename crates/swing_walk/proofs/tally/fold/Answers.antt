use Rattle.std.proofs.Common.{◌+◌, arith, rules}
use Rattle.std.proofs.lemmas.Grind.{common_steps}
use Rattle.swing_walk.proofs.Weights.{fold_room, upper_more, upper_room, fold_weight}
use Rattle.swing_walk.proofs.tally.fold.Goals as goal

pub overflow_add-total : goal.overflow_add-total
overflow_add-total c =
    let i = c.loop-index.index in
    let xs = c.args.table.now in
    omega (
      arith,
      c.loop-index.invariant.total,
      c.loop-index.invariant.rest (c.args.half + i) (omega arith),
      upper_more xs c.args.half i (c.args.half + i) (omega (arith, c.requires.half)) (omega arith) (omega arith),
      upper_room xs c.args.half (i + 1) (omega (arith, c.requires.half)),
      c.requires.room,
    )

pub overflow_add-table : goal.overflow_add-table
overflow_add-table c =
    let i = c.loop-index.index in
    omega (
      arith,
      c.loop-index.invariant.rest (c.args.half + i) (omega arith),
      c.loop-index.invariant.rest i (omega arith),
      fold_room c.args.table.now c.args.half i (c.args.half + i) (omega (arith, c.requires.half)) (omega arith) (omega arith),
      c.requires.room,
    )

pub loop-index-preserved : goal.loop-index-preserved
loop-index-preserved c =
    let i = c.loop-index.index in
    let inv = c.loop-index.invariant in
    record {
      size = search (rules, inv.size);
      total = omega (
        arith,
        inv.total,
        inv.rest (c.args.half + i) (omega arith),
        upper_more c.args.table.now c.args.half i (c.args.half + i) (omega (arith, c.requires.half)) (omega arith) (omega arith),
      );
      done = λ k h. grind (arith, common_steps, inv.done k, inv.rest i (omega arith), inv.rest (c.args.half + i) (omega arith));
      rest = λ k h. grind (arith, common_steps, inv.rest k (omega arith));
    }

pub returns-clause-folded : goal.returns-clause-folded
returns-clause-folded c = λ weight.
    fold_weight weight c.args.table.now c.loop-index.table c.args.half c.loop-index.index (omega (arith, c.requires.half)) c.loop-index.invariant.size (omega arith) c.loop-index.invariant.done
