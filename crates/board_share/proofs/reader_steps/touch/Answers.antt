use Rattle.board_share.proofs.Names.{ap, arith, known_by, reader_at, ReaderView, readings_after, Stage}
use Rattle.board_share.proofs.ReaderSeats.{loads, stores}
use Rattle.board_share.proofs.reader_steps.touch.Goals as goal

pub load-requires : goal.load-requires
load-requires c =
    let h = c.requires.reader in
    let low = c.in-Load.ensures.low in
    let wide = h.within in
    (h.same, omega arith, loads _ _ _ _ _ h _ _ _ c.in-Load.ensures.word (λ n. c.in-Load.ensures.becomes n))

pub store-requires : goal.store-requires
store-requires c =
    let h = c.requires.reader in
    let low = c.in-Store.ensures.low in
    let wide = h.within in
    let readings = (known_by (reader_at c.args.board.now.shared.table_id c.args.seat.now.me.0 c.args.r c.args.stage.now)).readings in (
      h.same,
      omega arith,
      stores _ _ _ _ _ h _ _ _ _ c.in-Store.ensures.word (λ n. c.in-Store.ensures.becomes n)
          (λ n. ap (λ (s : Stage). let v : ReaderView = record { stage = s; readings = readings_after c.args.stage.now s readings } in v) (c.in-Store.ensures.after n)),
    )
