use Rattle.board_share.proofs.Names.{arith, ◌∙◌}
use Rattle.two_copy_steps.proofs.Face.{publishable}
use Rattle.board_share.proofs.Openings.{words_kept, words_long}
use Rattle.board_share.proofs.opening.build_board.Goals as goal

pub of_words-requires : goal.of_words-requires
of_words-requires c =
    words_kept _ c.words.result _ (c.as_slice.ensures.same ∙ c.start-words.ensures.words) (c.words.ensures.same ∙ c.sheet-sheet.ensures.same) (publishable _ _ c.sheet-sheet.ensures.ledger c.sheet-sheet.ensures.same c.sheet-sheet.ensures.in_range)

pub returns : goal.returns
returns c =
    let t = c.in_ok-table.ensures in
    let long = words_long c.args.origin.now.readers c.words.result _ (c.as_slice.ensures.same ∙ c.start-words.ensures.words) c.words.ensures.long in
    record {
      laid = rw c.in_ok-new.ensures.ok record { same = t.2; words = t.0 ∙ long; whole = omega arith; view = t.4 };
    }
