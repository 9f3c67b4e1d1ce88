use Rattle.board_share.proofs.Names.{arith, COPY_WORDS, held_by, length, None, publication_steps, Published, subst}
use Rattle.board_share.proofs.Names.{not_quiescent, WriterTook, ℕ, ◌+◌, ◌-◌, ◌≡◌}
use Rattle.std.proofs.Common.{◌/◌}
use Rattle.council_core.specs.declared.limits.TheConstants.{CHAIRS}
use Rattle.board_share.specs.Writers.{published_view}
use Rattle.board_share.proofs.Publications.{not_due, swapped}
use Rattle.board_share.proofs.writer_steps.publish_all.Goals as goal

pub returns-clause-published : goal.returns-clause-published
returns-clause-published c =
    let l = c.args.register.now in
    let start = c.args.seat.now.me in
    let out = c.args.seen_out.now in
    let e = c.in_ok-see_all.ensures in
    let p = c.store_words-3.ensures.stored _ _ _
    (c.store_words-2.ensures.stored _ _ _ (c.store_words.ensures.stored _ _ _ e.out)) in
    let steps : not_quiescent out + CHAIRS / 2 + (CHAIRS - CHAIRS / 2) + (COPY_WORDS - CHAIRS) + 1
    ≡ publication_steps out = omega arith in
    subst (λ (n : ℕ). WriterTook l start c.store.new.seat.me n (published_view (held_by start.0) l.journal (length out))
    (Published (length l.journal))) steps
    (subst (λ (n : ℕ). WriterTook l start c.store.new.seat.me
    (not_quiescent out + CHAIRS / 2 + (CHAIRS - CHAIRS / 2) + (COPY_WORDS - CHAIRS) + 1)
    (published_view (held_by start.0) l.journal n) (Published (length l.journal))) e.count
    (swapped _ _ _ _ _ p None (not_due _ _ _ _ _ p) _ _ _ _ c.store.ensures.step))
