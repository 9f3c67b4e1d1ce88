use Rattle.std.proofs.Common.{◌∙◌, ap}
use Rattle.council_core.specs.Rolls.{standing_among}
use Rattle.council_core.proofs.StoreLemmas.{unlike_earlier}
use Rattle.council_core.proofs.stores.enter_again.Goals as goal

pub add-requires-clause-new : goal.add-requires-clause-new
add-requires-clause-new c =
    ap (standing_among c.row-item.result.0) c.loop-row.invariant.entries
    ∙ unlike_earlier c.args.rows.now c.loop-row.row-index c.row-item.result c.requires.apart c.loop-row-test.true c.row-item.is
