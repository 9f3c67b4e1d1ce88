-- The guarantees for a whole list of events, and the state of a run that could not reach its end.
use Rattle.std.specs.Prelude.{◌≡◌, ℕ, ◌≤◌, ◌⊎◌, List, length, take, slice_get, Some}
use Rattle.council_core.specs.Ledgers.{Ledger}
use Rattle.council_core.specs.Sequential.{AreLegalRecords}
use Rattle.council_core.specs.declared.refusals.Refusal.{Refusal}
use Rattle.council_core.specs.declared.refusals.Refusal.TheVariants.{OutOfMemory, BadLimit}
use Rattle.two_copy_steps.specs.declared.events.Event.{Event}
use Rattle.two_copy_steps.specs.declared.events.Note.{Note}
use Rattle.two_copy_steps.specs.Transitions.{MachineState, machine_at_start, state_after_events}
use Rattle.two_copy_steps.specs.Records.{RecordsAreReported}
use Rattle.two_copy_steps.specs.Auxiliary.{Auxiliary, auxiliary_start, auxiliary_steps, IsApart}
use Rattle.two_copy_steps.specs.Effects.{sequential_start, AllAnswer}
use Rattle.two_copy_steps.specs.Machines.{IsFew, WantsMemory}

-- the machine after a list of events, from the start over a register with `readers` readers;
-- `auxiliary_after` has the cuts and records
abbrev pub machine_after : Ledger → ℕ → List Event → MachineState
machine_after ledger readers events = state_after_events (machine_at_start ledger readers) events

abbrev pub auxiliary_after : Ledger → ℕ → List Event → Auxiliary
auxiliary_after ledger readers events =
    auxiliary_steps (machine_at_start ledger readers) (auxiliary_start ledger readers) events

-- every output that answers a call equals the sequential register's reply at the call's
-- linearization point
abbrev pub ReportsReplies : Ledger → ℕ → List Event → Type 0
ReportsReplies ledger readers events = AllAnswer (sequential_start ledger) (machine_at_start ledger readers) events

-- the records are legal before the first event and after every event
abbrev pub KeepsRecordsLegal : Ledger → ℕ → List Event → Type 0
KeepsRecordsLegal ledger readers events =
    (k : ℕ) → let m = machine_after ledger readers (take k events) in
    let a = auxiliary_after ledger readers (take k events)
    in AreLegalRecords m.ledger.opening m.writer.published a.cuts a.records

-- before each event, no reader holds the copy into which the writer's next step stores a word
abbrev pub StoresUnderNobody : Ledger → ℕ → List Event → Type 0
StoresUnderNobody ledger readers events =
    (k : ℕ) → let m = machine_after ledger readers (take k events) in IsApart m.writer m.readers

-- each reader's record is the sheets in its outputs, followed by the words that it is about to
-- leave
abbrev pub KeepsRecordsReported : Ledger → ℕ → List Event → List Note → Type 0
KeepsRecordsReported ledger readers events reported =
    RecordsAreReported (machine_after ledger readers events) (auxiliary_after ledger readers events) reported

-- the event at this index can need memory, in a run from this machine
abbrev pub WantsMemoryFrom : MachineState → List Event → ℕ → Type 0
WantsMemoryFrom m events index =
    (event : Event) × (slice_get events index ≡ Some event)
    × WantsMemory (state_after_events m (take index events)) event

-- memory for the outputs ran out before any event, or the next event can need memory
abbrev pub RunsOutOfMemory : Ledger → ℕ → List Event → ℕ → Type 0
RunsOutOfMemory ledger readers events done = (done ≡ 0) ⊎ WantsMemoryFrom (machine_at_start ledger readers) events done

-- the number of readers is refused before any event; otherwise memory ran out
abbrev pub HasCause : Ledger → ℕ → List Event → ℕ → Refusal → Type 0
HasCause ledger readers events done why =
    ((IsFew readers → ⊥) × (why ≡ BadLimit) × (done ≡ 0))
    ⊎ (IsFew readers × (why ≡ OutOfMemory) × RunsOutOfMemory ledger readers events done)

-- the register is as the first `done` events left it, and there is a cause
pub record IsFault (ledger : Ledger) (readers : ℕ) (events : List Event) (register : Ledger) (done : ℕ)
    (why : Refusal) : Type 0 where
  pub within : done ≤ length events
  pub left : register ≡ (machine_after ledger readers (take done events)).ledger
  pub cause : HasCause ledger readers events done why
