use Rattle.board_share.proofs.Names.{ap, arith, length-take-le, refl, stage_with_words, sym, ◌∙◌}
use Rattle.std.proofs.lemmas.List.{take_more_set}
use Rattle.two_copy_steps.specs.Actions.{copy_word}
use Rattle.board_share.proofs.ReaderSeats.{loads, left}
use Rattle.board_share.proofs.reader_steps.load_word.Goals as goal

pub load-requires : goal.load-requires
load-requires c =
    let h = c.requires.reader in
    let low = c.copy_word.ensures.low in
    let wide = h.within in
    (h.same, omega arith, loads _ _ _ _ _ h _ _ _ (c.copy_word.ensures.same ∙ ap (copy_word c.args.side) (sym (length-take-le c.args.k c.args.words.now (omega arith)))) (λ n. refl))

pub returns : goal.returns
returns c =
    left _ _ _ _ _ _ c.requires.reader _ _
    record { same = c.load.ensures.0; next = c.load.ensures.2; stage_is = ap (stage_with_words c.args.side) (take_more_set c.args.words.now c.args.k c.load.result (omega arith)) }
