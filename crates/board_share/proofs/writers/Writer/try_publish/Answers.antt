use Rattle.board_share.proofs.Names.{ap, arc_value, Bool, IsWriter, length, List, subst, sym, WriterView, ◌-◌, ◌∙◌}
use Rattle.board_share.proofs.WriterSeats.{published, gave_up, held, published_seat}
use Rattle.board_share.proofs.writers.Writer.try_publish.Goals as goal

pub returns-in_err-publish_all-clause-gave_up : goal.returns-in_err-publish_all-clause-gave_up
returns-in_err-publish_all-clause-gave_up c =
    gave_up _ _ _ _ _ _ c.self.invariant.0 _ c.self.view_is _ _ _ c.from_residual.result
    c.in_err-publish_all.ensures.blocking

pub invariant_of-self-2 : goal.invariant_of-self-2
invariant_of-self-2 c =
    let e = c.in_ok-publish_all.ensures in
    let h = c.self.invariant.0 in (
      subst (λ (out : List Bool). IsWriter
          (arc_value c.self.inside.board).shared.table_id c.publish_all.new.seat.table_id c.publish_all.new.seat.me
          c.self.inside.register (1 - c.self.inside.side) out) (sym c.clear.ensures)
          (published_seat _ _ _ _ _ _ h _ _ c.publish_all.new.seen_out e.table e.published e.count),
      ap length c.journal.ensures.commands
          ∙ ap (λ (v : WriterView). length v.state.published) (sym (held _ _ _ _ _ _ h _ _ _ _ e.published)),
    )

pub returns-clause-steps : goal.returns-clause-steps
returns-clause-steps c pending =
    published _ _ _ _ _ _ c.self.invariant.0 _ c.self.view_is _ c.in_ok-publish_all.ensures.published
