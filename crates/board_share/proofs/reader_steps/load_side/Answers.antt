use Rattle.board_share.proofs.Names.{arith, refl}
use Rattle.board_share.proofs.ReaderSeats.{loads, left}
use Rattle.board_share.proofs.reader_steps.load_side.Goals as goal

pub load-requires : goal.load-requires
load-requires c =
    let h = c.requires in
    let wide = h.within in
    (h.same, omega arith, loads _ _ _ _ _ h _ _ _ refl (λ n. refl))

pub returns : goal.returns
returns c = left _ _ _ _ _ _ c.requires _ _ record { same = c.load.ensures.0; next = c.load.ensures.2; stage_is = refl }
