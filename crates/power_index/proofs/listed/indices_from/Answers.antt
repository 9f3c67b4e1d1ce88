use Rattle.std.proofs.Common.{◌≡◌, ℕ, ◌^◌, ◌∙◌, ap, refl, List, length}
use Rattle.council_core.specs.Sheets.{open_chairs}
use Rattle.council_core.specs.Coalitions.{omega_of}
use Rattle.majority_rule.specs.declared.majorities.Majority.{Majority}
use Rattle.majority_rule.specs.Winning.{rule_of}
use Rattle.power_index.specs.Indices.{ratio, rows_among}
use Rattle.power_index.proofs.Bounds.{both_win}
use Rattle.power_index.proofs.IndicesLemmas.{fields_settle}
use Rattle.power_index.proofs.listed.indices_from.Goals as goal

pub tally-tally-requires-clause-quota : goal.tally-tally-requires-clause-quota
tally-tally-requires-clause-quota c = λ w k. both_win _ _ (c.quota-quota.ensures.least w) (c.least_size-least_size.ensures.least k)

pub returns-clause-exact : goal.returns-clause-exact
returns-clause-exact c =
    let held : List ℕ = c.args.sheet.now in
    let o : c.tally-tally.result.winning ≡ omega_of (rule_of c.args.majority held) (open_chairs held) = c.tally-tally.ensures.counts.omega ∙ ap (λ (t : Majority). omega_of (rule_of t held) (open_chairs held)) c.tally-tally.ensures.majority in
    let a : c.coalition_count-coalitions.result ≡ 2 ^ length (open_chairs held) = c.coalition_count-coalitions.ensures.same ∙ ap (λ (k : ℕ). 2 ^ k) c.chairs-chairs.ensures.same in
    record {
      same_majority = refl;
      same_front = c.front.ensures.same;
      open_count = c.chairs-chairs.ensures.same;
      least_winning = λ w k. both_win _ _ (c.quota-quota.ensures.least w) (c.least_size-least_size.ensures.least k);
      same_cast = c.cast.ensures.same;
      same_total = c.total.ensures.same;
      omega = o;
      all = a;
      to_act = ap (λ (k : ℕ). ratio k c.coalition_count-coalitions.result) o ∙ ap (ratio (omega_of (rule_of c.args.majority held) (open_chairs held))) a;
      row_each = c.rows.ensures.rows ∙ ap (λ (t : Majority). rows_among (rule_of t held) (open_chairs held) (open_chairs held)) c.tally-tally.ensures.majority;
    }

pub returns-clause-same : goal.returns-clause-same
returns-clause-same c = fields_settle c.args.majority c.args.sheet.now _ (returns-clause-exact c) c.quota-quota.ensures.same c.least_size-least_size.ensures.same
