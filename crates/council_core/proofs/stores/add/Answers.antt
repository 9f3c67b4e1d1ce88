use Rattle.std.proofs.Common.{◌∙◌}
use Rattle.council_core.specs.Rolls.{same_code}
use Rattle.indexmap.proofs.CallerLemmas.{insert_entry-new}
use Rattle.council_core.proofs.stores.add.Goals as goal

pub returns-clause-entries : goal.returns-clause-entries
returns-clause-entries c =
    c.in-Ok.ensures.entries ∙ insert_entry-new same_code c.args.members.now c.args.code c.args.standing c.requires.new
