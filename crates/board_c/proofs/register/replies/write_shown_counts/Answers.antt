use Rattle.std.proofs.Common.{List, ℕ, subst}
use Rattle.council_core.specs.Sequential.{Sequential, published_sheet}
use Rattle.c_values.specs.Counts.{ShowsCounts}
use Rattle.board_c.proofs.ReplyFacts.{counted_of}
use Rattle.board_c.proofs.register.replies.write_shown_counts.Goals as goal

pub returns : goal.returns
returns c =
    let shows = λ (words : List ℕ). ShowsCounts c.args.majority words c.write_counts.new.counts in
    counted_of c.args.majority _ _ _ _ _ shows (λ (s : Sequential). shows (published_sheet s)) (subst shows c.shown_sheet.ensures.same) c.write_counts.ensures
