use Rattle.std.proofs.Common.{sym, subst}
use Rattle.std.specs.Prelude.{Result, Ok, Err, IsOk, IfErr}
use Rattle.c_values.specs.Counts.{IsSheetInRange}
use Rattle.board_c.proofs.RollWords.{whole}
use Rattle.board_c.proofs.counts.members.sheet_of_members.Goals as goal

no_error : {X Y : Type 0} (found : Result X Y) (P : Y → Type 0) → IsOk found → IfErr found P
no_error (Ok x) P ok = tt
no_error (Err why) P ok = absurd (cc)

pub returns-clause-refused : goal.returns-clause-refused
returns-clause-refused c =
    no_error c.sheet_of.result _
    (c.sheet_of.ensures.in_range.1 (subst IsSheetInRange (sym c.in_ok-words.ensures.same) (whole c.args.members.now c.args.mask c.in_ok-words.ensures.board)))
