use Rattle.std.proofs.Common.{◌∙◌, List, ap, subst, sym, take, ◌-◌}
use Rattle.std.specs.List.{IsDistinct}
use Rattle.std.specs.Map.{keys_of}
use Rattle.council_core.specs.Rolls.{RollEntry, same_code}
use Rattle.council_core.proofs.StoreLemmas.{distinct_without}
use Rattle.council_core.proofs.stores.take_out.Goals as goal

pub enter_again-requires-clause-apart : goal.enter_again-requires-clause-apart
enter_again-requires-clause-apart c =
    let same = ap (λ n. take (n - 1) c.others-rows.result) c.len-rest.ensures.len ∙ c.others-rows.ensures.others in
    subst (λ (l : List RollEntry). IsDistinct same_code (keys_of l)) (sym same) (distinct_without c.args.members.now.entries c.args.index c.others-rows.ensures.apart)
