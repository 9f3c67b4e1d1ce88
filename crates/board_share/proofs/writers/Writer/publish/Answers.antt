use Rattle.board_share.proofs.Names.{length, suc, sym, true≢false, ◌∙◌}
use Rattle.std.proofs.Common.{nat_lt}
use Rattle.board_share.proofs.writers.Writer.publish.Goals as goal

pub returns-in-Ok-clause-steps : goal.returns-in-Ok-clause-steps
returns-in-Ok-clause-steps g c pending =
    let i = c.loop.invariant in
    i.tries c.try_publish.new.self 0 (c.in-Ok.ensures.steps ((λ j. nat_lt (length (i.published j)) (length (i.ledger j).journal)) ∙ pending))

pub loop-preserved : goal.loop-preserved
loop-preserved g c =
    let i = c.loop.invariant in
    let e = c.in_default.ensures in
    record {
      next = (tt, tt);
      table = c.try_publish.ensures.table ∙ i.table;
      ledger = c.try_publish.ensures.ledger ∙ i.ledger;
      published = e.unchanged.0 ∙ i.published;
      readers = c.try_publish.ensures.readers ∙ i.readers;
      still = λ quiet. absurd (true≢false (sym (e.nothing_pending ((λ j. nat_lt (length (i.published j)) (length (i.ledger j).journal)) ∙ quiet))));
      cuts = e.unchanged.1 ∙ i.cuts;
      tries = λ after n p. i.tries after (suc n) (c.try_publish.new.self, e.gave_up, c.try_publish.ensures.ledger, p);
    }
