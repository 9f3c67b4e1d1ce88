use Rattle.std.proofs.Common.{List, ℕ, subst}
use Rattle.c_values.specs.Counts.{ShowsAllCounts}
use Rattle.board_c.proofs.register.replies.all_counts_of.Goals as goal

pub returns : goal.returns
returns c = subst (λ (words : List ℕ). ShowsAllCounts words c.all_counts_for.result) c.own_sheet.ensures.same c.all_counts_for.ensures.counts
