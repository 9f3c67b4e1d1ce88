use Rattle.board_share.proofs.Names.{refl, subst, sym, ℕ, ◌<◌}
use Rattle.board_share.proofs.ReaderSeats.{stores, left}
use Rattle.board_share.proofs.reader_steps.leave.Goals as goal

pub store-requires : goal.store-requires
store-requires c =
    let h = c.requires in
    (h.same, subst (λ (index : ℕ). index < c.args.board.now.shared.table_id.words) (sym c.pin.ensures.same) h.within, stores _ _ _ _ _ h _ _ _ _ c.pin.ensures.same (λ n. refl) (λ n. refl))

pub returns : goal.returns
returns c = left _ _ _ _ _ _ c.requires _ _ record { same = c.store.ensures.0; next = c.store.ensures.2; stage_is = refl }
