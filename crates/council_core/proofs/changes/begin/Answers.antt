use Rattle.council_core.proofs.MirrorLemmas.{kept_in}
use Rattle.council_core.proofs.StartLemmas.{Mirrors-start}
use Rattle.council_core.proofs.changes.begin.Goals as goal

pub returns-clause-begun : goal.returns-clause-begun
returns-clause-begun c =
    Mirrors-start c.args.opening.now (kept_in c.enter_all.new.members c.start.result) (record {
      made = c.enter_all.ensures.entries;
      bound = c.requires.opening.bound;
      words = c.start.ensures.words;
      counts = c.start.ensures.counts;
      total = c.start.ensures.total;
      votes = c.requires.opening.small;
    })
