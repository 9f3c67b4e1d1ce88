use Rattle.swing_walk.proofs.pairs.count.Goals as goal

pub returns-clause-with_chair : goal.returns-clause-with_chair
returns-clause-with_chair c = rw (c.ascending.ensures.same, c.ascending-2.ensures.same) at c.count_lists.ensures.with_chair
