use Rattle.std.proofs.Common.{codes}
use Rattle.std.specs.Str.Parse.{ParsesUnsigned, ExplainsUnsignedError, HasUnsignedDigitsIfOk}
use Rattle.clap.specs.Words.{found_of}
use Rattle.board_report.proofs.WordFacts.{said-number}
use Rattle.board_report.proofs.calls.journal_of.Goals as goal

pub returns : goal.returns
returns c =
    record {
      found = said-number 32 (λ bs r. ParsesUnsigned 32 10 bs r × ExplainsUnsignedError 10 bs r × HasUnsignedDigitsIfOk bs r) (λ t x h. h.0) (found_of c.args.matches.now) (codes "journal") c.get_one.result c.get_one.ensures.none c.get_one.ensures.value;
    }
