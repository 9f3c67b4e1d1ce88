use Rattle.std.proofs.Common.{◌≡◌, ◌≤◌, ◌^◌, List, ℕ, sym, subst}
use Rattle.std.specs.List.{sum_by}
use Rattle.power_index.specs.Halves.{left_weights, right_weights}
use Rattle.power_index.proofs.HalfLemmas.{left_small, right_small}
use Rattle.power_index.proofs.evaluator.Evaluator.set.Goals as goal

pub refresh-requires-clause-small : goal.refresh-requires-clause-small
refresh-requires-clause-small c =
    let same : c.split_at-2.result.0.now ≡ left_weights c.words-new.result = cc in
    subst (λ (l : List ℕ). sum_by (λ n. n) l ≤ 2 ^ 48) (sym same) (left_small c.words-new.result c.words-new.ensures.lawful)

pub refresh-requires-2-clause-small : goal.refresh-requires-2-clause-small
refresh-requires-2-clause-small c =
    let same : c.split_at-2.result.1.now ≡ right_weights c.words-new.result = cc in
    subst (λ (l : List ℕ). sum_by (λ n. n) l ≤ 2 ^ 48) (sym same) (right_small c.words-new.result c.words-new.ensures.lawful)
