use Rattle.std.proofs.Common.{◌∙◌}
use Rattle.council_core.specs.Sheets.{open_chairs}
use Rattle.majority_rule.specs.Winning.{rule_of}
use Rattle.c_values.proofs.RowLemmas.{shown_rows}
use Rattle.c_values.proofs.counts.counts_for.Goals as goal

pub returns : goal.returns
returns c m words are = record {
  least_winning = rw c.from.ensures are.least_winning;
  cast = are.same_cast;
  total = are.same_total;
  open_count = c.from-2.ensures ∙ are.open_count;
  omega = are.omega;
  all = are.all;
  row_each = c.rows_for.ensures ∙ shown_rows (rule_of m words) (open_chairs words) _ (c.as_slice.ensures.value ∙ are.row_each);
}
