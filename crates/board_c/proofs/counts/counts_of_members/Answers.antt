use Rattle.std.proofs.Common.{List, ℕ, subst}
use Rattle.std.specs.Prelude.{IfOk}
use Rattle.c_values.specs.Counts.{ShowsCounts}
use Rattle.board_c.proofs.counts.counts_of_members.Goals as goal

pub returns-clause-counts : goal.returns-clause-counts
returns-clause-counts c =
    subst (λ (words : List ℕ). IfOk c.counts_by_number.result (λ shown. ShowsCounts c.args.number words shown)) c.in_ok-sheet.ensures.same c.counts_by_number.ensures.counts
