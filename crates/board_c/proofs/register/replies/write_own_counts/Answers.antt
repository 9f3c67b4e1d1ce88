use Rattle.std.proofs.Common.{List, ℕ, subst}
use Rattle.council_core.specs.Sequential.{Sequential}
use Rattle.council_core.specs.Ledgers.{sheet_of}
use Rattle.c_values.specs.Counts.{ShowsCounts}
use Rattle.board_c.proofs.ReplyFacts.{counted_of}
use Rattle.board_c.proofs.register.replies.write_own_counts.Goals as goal

pub returns : goal.returns
returns c =
    let shows = λ (words : List ℕ). ShowsCounts c.args.majority words c.write_counts.new.counts in
    counted_of c.args.majority _ _ _ _ _ shows (λ (s : Sequential). shows (sheet_of s.ledger)) (subst shows c.own_sheet.ensures.same) c.write_counts.ensures
