use Rattle.two_copy_steps.proofs.Names.{arith, Event, HasVotesInRange, IsLedger, IsPublishable, Ledger, MachineState}
use Rattle.two_copy_steps.proofs.Names.{transition}
use Rattle.council_core.proofs.Face.{IsSheet-sheet}
use Rattle.two_copy_steps.proofs.TransitionSteps.{transition_keeps}
use Rattle.two_copy_steps.proofs.Journals.{journal_accepted, journal_within, stays_in_range}
use Rattle.two_copy_steps.proofs.laws.event_law.Goals as goal

pub returns-clause-lawful : goal.returns-clause-lawful
returns-clause-lawful c = λ m aux l legal event. transition_keeps IsPublishable m aux l legal event

-- the register after an event
journal_kept : (m : MachineState) → IsLedger m.ledger → (event : Event) → IsLedger (transition m event).0.ledger
journal_kept m k event =
    let w = journal_within m (k.within, k.small) event in
    let short = w.0 in
    let small = w.1 in
    record { legal = (journal_accepted m k.legal.0 event, omega arith); within = w.0; small = w.1 }

pub returns-clause-journal : goal.returns-clause-journal
returns-clause-journal c = λ m k event. journal_kept m k event

pub returns-clause-in_range : goal.returns-clause-in_range
returns-clause-in_range c = λ m k votes event hands.
    let after : Ledger = (transition m event).0.ledger in
    let h : HasVotesInRange after = stays_in_range m votes event hands in
    let legal = (journal_kept m k event).legal in
    (h, (legal, IsSheet-sheet after.opening after.journal h.0 h.1 legal))
