use Rattle.std.proofs.Common.{◌≡◌, ◌≤◌, ◌^◌, List, ℕ, sym, subst}
use Rattle.std.specs.List.{sum_by}
use Rattle.council_core.specs.Sheets.{IsSheet}
use Rattle.power_index.specs.Halves.{left_weights, right_weights}
use Rattle.power_index.proofs.HalfLemmas.{left_small, right_small}
use Rattle.power_index.proofs.lent.LentEvaluator.over.Goals as goal

pub listed-left-requires-clause-small : goal.listed-left-requires-clause-small
listed-left-requires-clause-small c =
    let lawful : IsSheet c.args.sheet.now = rw c.words-words.ensures.same at c.words-words.ensures.lawful in
    let same : c.split_at.result.0.now ≡ left_weights c.args.sheet.now = cc in
    subst (λ (l : List ℕ). sum_by (λ n. n) l ≤ 2 ^ 48) (sym same) (left_small c.args.sheet.now lawful)

pub listed-right-requires-clause-small : goal.listed-right-requires-clause-small
listed-right-requires-clause-small c =
    let lawful : IsSheet c.args.sheet.now = rw c.words-words.ensures.same at c.words-words.ensures.lawful in
    let same : c.split_at.result.1.now ≡ right_weights c.args.sheet.now = cc in
    subst (λ (l : List ℕ). sum_by (λ n. n) l ≤ 2 ^ 48) (sym same) (right_small c.args.sheet.now lawful)
