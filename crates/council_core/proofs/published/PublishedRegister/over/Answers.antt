use Rattle.council_core.proofs.PublishedLemmas.{shows-own}
use Rattle.council_core.proofs.published.PublishedRegister.over.Goals as goal

pub invariant_of-result : goal.invariant_of-result
invariant_of-result c = shows-own c.args.register c.sheet-shown.result c.sheet-shown.ensures.same c.sheet-shown.ensures.in_range
