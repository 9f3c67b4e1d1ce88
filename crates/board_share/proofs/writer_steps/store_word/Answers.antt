use Rattle.board_share.proofs.Names.{Filling}
use Rattle.board_share.proofs.Publications.{becomes, filling_at, stored}
use Rattle.board_share.proofs.writer_steps.store_word.Goals as goal

pub store-requires-clause-becomes : goal.store-requires-clause-becomes
store-requires-clause-becomes g c =
    becomes _ _ _ _ _ (Filling c.args.k)
    (filling_at _ _ _ _ _ _ c.requires.within c.requires.fills.publishing) g.J.Staged.list c.requires.list
    (λ n. c.sheet_word.result) (λ n. c.sheet_word.ensures.same)

pub returns-clause-stored : goal.returns-clause-stored
returns-clause-stored g c start steps out p =
    stored _ _ _ _ _ _ (filling_at _ _ _ _ _ _ c.requires.within p) g.J.Staged.list c.requires.list _ _ _ _
    c.store.ensures.step
