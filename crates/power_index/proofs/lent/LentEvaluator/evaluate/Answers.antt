use Rattle.std.proofs.Common.{ap, ◌∙◌}
use Rattle.power_index.specs.Indices.{indices_of}
use Rattle.power_index.proofs.lent.LentEvaluator.evaluate.Goals as goal

pub returns-clause-same : goal.returns-clause-same
returns-clause-same c = c.indices_from.ensures.same ∙ ap (indices_of c.args.majority) c.self.view_is
