use Rattle.std.proofs.Common.{◌<◌, ◌∙◌, sym, ap, arith, length, slice_index}
use Rattle.council_core.specs.Ledgers.{Ledger, roll_of, sheet_of}
use Rattle.council_core.proofs.SheetOfLemmas.{word_at}
use Rattle.council_core.proofs.registers.Register.sheet_word.Goals as goal

pub returns-in_default : goal.returns-in_default
returns-in_default c =
    let i = c.self.inside in
    let l : Ledger = record { opening = i.opening.items; journal = i.journal.items; limit = i.limit } in
    let below : c.args.index < 32 = omega arith in
    record {
      same = c.self.invariant.mirrors.each_word c.args.index below
          ∙ sym (word_at (roll_of l) (length l.journal) c.args.index below)
          ∙ ap (λ (l : Ledger). slice_index (sheet_of l) c.args.index) c.self.view_is;
    }
