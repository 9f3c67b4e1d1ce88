use Rattle.board_share.proofs.Names.{ap, ReaderState, subst, ◌∙◌}
use Rattle.two_copy_steps.specs.States.{EndsWith}
use Rattle.two_copy_steps.specs.Stages.{IsReadable, sheet_read}
use Rattle.board_share.proofs.ReaderSeats.{took_from}
use Rattle.board_share.proofs.WholeReadings.{counted, ended}
use Rattle.board_share.proofs.readers.Reader.step.Goals as goal

pub returns-clause-step : goal.returns-clause-step
returns-clause-step c = took_from _ _ _ _ _ _ c.self.view_is (rw c.deref.ensures at c.advance.ensures.seat)

pub returns-clause-count : goal.returns-clause-count
returns-clause-count c =
    counted _ _ (took_from _ _ _ _ _ _ c.self.view_is (rw c.deref.ensures at c.advance.ensures.seat)) (subst (λ (p : ReaderState). IsReadable p.stage) c.self.view_is c.self.invariant.known.readable)

pub returns-clause-last : goal.returns-clause-last
returns-clause-last c =
    ended _ _ _ (took_from _ _ _ _ _ _ c.self.view_is (rw c.deref.ensures at c.advance.ensures.seat))
    (c.advance.ensures.sheet ∙ ap (λ (p : ReaderState). sheet_read p.stage) c.self.view_is)
    (subst (λ (p : ReaderState). EndsWith p.readings p.stage) c.self.view_is c.self.invariant.known.ends)
