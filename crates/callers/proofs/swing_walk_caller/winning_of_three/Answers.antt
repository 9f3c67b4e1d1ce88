use Rattle.std.specs.Prelude.{[], ◌∷◌}
use Rattle.std.proofs.Common.{rules, ◌∙◌}
use Rattle.std.specs.List.{IsDistinct}
use Rattle.callers.proofs.swing_walk_caller.winning_of_three.Goals as goal

pub rebuild-requires-clause-distinct : goal.rebuild-requires-clause-distinct
unfolding IsDistinct
rebuild-requires-clause-distinct c = search rules

pub rebuild-requires-2-clause-distinct : goal.rebuild-requires-2-clause-distinct
unfolding IsDistinct
rebuild-requires-2-clause-distinct c = search rules

pub returns : goal.returns
unfolding IsDistinct
returns c =
    let pairs = c.pair_law.ensures.counts c.args.quota 0 ((0, 50) ∷ (1, 49) ∷ []) ((0, 1) ∷ [])
    c.rebuild.new.self c.rebuild-2.new.self
    (record { slots = search rules; distinct = search rules })
    (record { slots = search rules; distinct = search rules })
    c.rebuild.ensures.subsets c.rebuild-2.ensures.subsets in
    record { omega = c.count.ensures.winning ∙ pairs.winning }
