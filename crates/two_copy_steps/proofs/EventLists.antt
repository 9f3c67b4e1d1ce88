-- Over every list of events.
use Rattle.two_copy_steps.proofs.Names.{[], ap, AreLegalRecords, arith, Auxiliary, auxiliary_after, auxiliary_start}
use Rattle.two_copy_steps.proofs.Names.{auxiliary_step, auxiliary_steps, Command, Event, get_or, IsApart}
use Rattle.two_copy_steps.proofs.Names.{IsLawfulMachine, Ledger, length, length-append, List, machine_after}
use Rattle.two_copy_steps.proofs.Names.{machine_at_start, MachineState, Note, notes, refl, sequential_start}
use Rattle.two_copy_steps.proofs.Names.{sequential_step, SequentialRun, state_after_events, state_of, subst, suc, sym}
use Rattle.two_copy_steps.proofs.Names.{take, transition, ℕ, ◌++◌, ◌+◌, ◌<◌, ◌∙◌, ◌∷◌, ◌≡◌, ◌≤◌}
use Rattle.std.proofs.Math.Seq.{take-suc}
use Rattle.two_copy_steps.specs.Laws.{RecordsLaw}
use Rattle.two_copy_steps.specs.Effects.{AllAnswer}
use Rattle.two_copy_steps.proofs.TransitionSteps.{transition_keeps, records_viewed, stages_viewed}
use Rattle.two_copy_steps.proofs.StateFacts.{all_records, published_legal, stores_apart}
use Rattle.two_copy_steps.proofs.Replies.{Agrees, event_agrees}
use Rattle.two_copy_steps.proofs.Journals.{IsAccepted, IsWithin, journal_accepted, journal_within}
use Rattle.two_copy_steps.proofs.Starts.{start_lawful, start_agrees}

pub always_lawful : (events : List Event) (m : MachineState) (aux : Auxiliary) → IsLawfulMachine IsAccepted m aux → IsAccepted m.ledger.opening m.ledger.journal → IsLawfulMachine IsAccepted (state_after_events m events) (auxiliary_steps m aux events)
always_lawful [] m aux l h = l
always_lawful (event ∷ events) m aux l h = always_lawful events (transition m event).0 (auxiliary_step m aux event) (transition_keeps IsAccepted m aux l h event) (journal_accepted m h event)

-- a machine that meets the invariant and whose journal is accepted, and a run of the sequential
-- register that agrees with it
pub record Together (t : SequentialRun) (m : MachineState) (aux : Auxiliary) : Type 0 where
  pub lawful : IsLawfulMachine IsAccepted m aux
  pub accepted : IsAccepted m.ledger.opening m.ledger.journal
  pub agrees : Agrees t m

-- so they are after an event, and after all events
pub together_on : (t : SequentialRun) (m : MachineState) (aux : Auxiliary) → Together t m aux → (event : Event) → Together (sequential_step t m event) (transition m event).0 (auxiliary_step m aux event)
together_on t m aux h event =
    record {
      lawful = transition_keeps IsAccepted m aux h.lawful h.accepted event;
      accepted = journal_accepted m h.accepted event;
      agrees = (event_agrees IsAccepted m aux h.lawful t h.agrees event).0;
    }

pub together_after : (events : List Event) (t : SequentialRun) (m : MachineState) (aux : Auxiliary) → Together t m aux → (t' : SequentialRun) × Together t' (state_after_events m events) (auxiliary_steps m aux events)
together_after [] t m aux h = (t, h)
together_after (event ∷ events) t m aux h = together_after events (sequential_step t m event) (transition m event).0 (auxiliary_step m aux event) (together_on t m aux h event)

-- each note is the sequential register's reply
all_answer : (events : List Event) (t : SequentialRun) (m : MachineState) (aux : Auxiliary) → Together t m aux → AllAnswer t m events
all_answer [] t m aux h = tt
all_answer (event ∷ events) t m aux h =
    ((event_agrees IsAccepted m aux h.lawful t h.agrees event).1, all_answer events (sequential_step t m event) (transition m event).0 (auxiliary_step m aux event) (together_on t m aux h event))

pub always_within : (events : List Event) (m : MachineState) → IsWithin m.ledger → IsWithin (state_after_events m events).ledger
always_within [] m h = h
always_within (event ∷ events) m h = always_within events (transition m event).0 (journal_within m h event)

-- a list of events followed by another
pub after_append : (events more : List Event) (m : MachineState) → state_after_events m (events ++ more) ≡ state_after_events (state_after_events m events) more
after_append [] more m = refl
after_append (event ∷ events) more m = after_append events more (transition m event).0

pub notes_append : (events more : List Event) (m : MachineState) → notes m (events ++ more) ≡ notes m events ++ notes (state_after_events m events) more
notes_append [] more m = refl
notes_append (event ∷ events) more m = ap (λ (l : List Note). (transition m event).1 ∷ l) (notes_append events more (transition m event).0)

module _ (ledger : Ledger) (readers : ℕ) (accepted : IsAccepted ledger.opening ledger.journal) where
  -- from the start
  pub start_together : Together (sequential_start ledger) (machine_at_start ledger readers) (auxiliary_start ledger readers)
  start_together = record { lawful = start_lawful IsAccepted ledger readers accepted; accepted = accepted; agrees = start_agrees ledger readers }

  run_lawful : (events : List Event) → IsLawfulMachine IsAccepted (state_after_events (machine_at_start ledger readers) events) (auxiliary_steps (machine_at_start ledger readers) (auxiliary_start ledger readers) events)
  run_lawful events = always_lawful events (machine_at_start ledger readers) (auxiliary_start ledger readers) (start_lawful IsAccepted ledger readers accepted) accepted

  pub run_answers : (events : List Event) → AllAnswer (sequential_start ledger) (machine_at_start ledger readers) events
  run_answers events = all_answer events (sequential_start ledger) (machine_at_start ledger readers) (auxiliary_start ledger readers) start_together

  pub run_apart : (events : List Event) → let m = machine_after ledger readers events in IsApart m.writer m.readers
  run_apart events =
      let m = machine_after ledger readers events in
      let aux = auxiliary_after ledger readers events in
      subst (IsApart m.writer) (stages_viewed m.readers aux.records) (stores_apart m.ledger.opening (IsAccepted m.ledger.opening) (state_of m aux) (run_lawful events).state)

-- of a register's ledger the journal stays short enough
pub ledger_records : RecordsLaw
ledger_records ledger readers k events =
    let m = machine_after ledger readers events in
    let aux = auxiliary_after ledger readers events in
    let l = run_lawful ledger readers k.legal.0 events in
    let within = always_within events (machine_at_start ledger readers) (k.within, k.small) in
    let begins = l.state.writer.begins in
    let short : length m.writer.published ≤ 1000000 =
    omega (arith, within.0, within.1, ap (length {A = Command}) begins.1, ap (length {A = Command}) l.extends.1, length-append m.writer.published begins.0, length-append m.writer.staged l.extends.0) in
    subst (AreLegalRecords m.ledger.opening m.writer.published aux.cuts) (records_viewed m.readers aux.records l.each_record)
    (all_records m.ledger.opening (IsAccepted m.ledger.opening) (state_of m aux) l.state (published_legal m.ledger.opening (IsAccepted m.ledger.opening) (state_of m aux) l.state, short))

one_more : (events : List Event) (k : ℕ) (event : Event) → k < length events → event ≡ get_or events k event → take (k + 1) events ≡ take k events ++ event ∷ []
one_more events k event h at =
    let next : k + 1 ≡ suc k = omega arith in
    ap (λ (n : ℕ). take n events) next ∙ (take-suc events k event h ∙ ap (λ (e : Event). take k events ++ e ∷ []) (sym at))

-- the first events of a list, with one more
pub after_more : (m : MachineState) (events : List Event) (k : ℕ) (event : Event) → k < length events → event ≡ get_or events k event
    → state_after_events m (take (k + 1) events) ≡ (transition (state_after_events m (take k events)) event).0
after_more m events k event h at = ap (state_after_events m) (one_more events k event h at) ∙ after_append (take k events) (event ∷ []) m

pub notes_more : (m : MachineState) (events : List Event) (k : ℕ) (event : Event) → k < length events → event ≡ get_or events k event
    → notes m (take (k + 1) events) ≡ notes m (take k events) ++ (transition (state_after_events m (take k events)) event).1 ∷ []
notes_more m events k event h at = ap (notes m) (one_more events k event h at) ∙ notes_append (take k events) (event ∷ []) m
