use Rattle.std.proofs.Common.{refl}
use Rattle.swing_walk.proofs.pairs.count_lists.Goals as goal

pub walk-requires-2-clause-front : goal.walk-requires-2-clause-front
walk-requires-2-clause-front c = c.start-front.ensures.counted _ refl

pub walk-requires-2-clause-back : goal.walk-requires-2-clause-back
walk-requires-2-clause-back c = c.start-back.ensures.counted _ refl

pub returns-then-least_size-eq0-clause-with_chair : goal.returns-then-least_size-eq0-clause-with_chair
returns-then-least_size-eq0-clause-with_chair c = rw (c.copy.ensures.same, c.copy-2.ensures.same) at c.walk.ensures.with_chair

pub returns-clause-with_chair : goal.returns-clause-with_chair
returns-clause-with_chair c = rw (c.copy.ensures.same, c.copy-2.ensures.same) at c.walk-2.ensures.with_chair
