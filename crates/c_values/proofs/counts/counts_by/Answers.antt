use Rattle.c_values.proofs.counts.counts_by.Goals as goal

pub returns : goal.returns
returns c = record { counts = c.counts_for.ensures c.args.majority c.args.evaluator.now c.evaluate-indices.ensures.exact }
