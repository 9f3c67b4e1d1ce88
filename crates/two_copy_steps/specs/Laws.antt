-- Laws of the machine: of its start, its states, its events and its runs.
use Rattle.std.specs.Prelude.{◌≡◌, ◌≢◌, ℕ, suc, ◌+◌, ◌≤◌, ◌==◌, true, false, List, []}
use Rattle.std.specs.Prelude.{◌∷◌, ◌++◌, length, map, slice_get, slice_index, Some, if◌then◌else◌, All}
use Rattle.council_core.specs.declared.commands.Command.{Command}
use Rattle.council_core.specs.Rolls.{Opening}
use Rattle.council_core.specs.Laws.{IsOpening, SetsInRange}
use Rattle.council_core.specs.Ledgers.{Ledger, IsLedger}
use Rattle.council_core.specs.Sheets.{front_of}
use Rattle.two_copy_steps.specs.declared.events.Event.{Event}
use Rattle.two_copy_steps.specs.declared.events.Event.TheVariants.{Submit, Publish, Writer, Reader}
use Rattle.two_copy_steps.specs.declared.events.Note.TheVariants.{Began, Busy, Read}
use Rattle.two_copy_steps.specs.declared.views.Stage.{Stage}
use Rattle.two_copy_steps.specs.declared.views.Stage.TheVariants.{AtRest}
use Rattle.two_copy_steps.specs.declared.views.Phase.TheVariants.{Filling}
use Rattle.two_copy_steps.specs.declared.views.ReaderView.{ReaderView}
use Rattle.two_copy_steps.specs.Lawful.{State, IsPublishable, read_by, written_by, begun_by}
use Rattle.two_copy_steps.specs.States.{IsLawfulBoard, IsKnown}
use Rattle.two_copy_steps.specs.Transitions.{MachineState, transition, machine_at_start, state_after_events, notes}
use Rattle.two_copy_steps.specs.Auxiliary.{Auxiliary, auxiliary_start, auxiliary_step, record_at, state_of, IsLawfulMachine}
use Rattle.two_copy_steps.specs.Auxiliary.{IsApart}
use Rattle.two_copy_steps.specs.Actions.{all_true, pin, stage_action, reader_action}
use Rattle.two_copy_steps.specs.Stages.{steps_taken, last_load, last_step, sheet_read, IsReadable}
use Rattle.two_copy_steps.specs.Publications.{IsLeastUnseen, StaySeen, stores_side}
use Rattle.two_copy_steps.specs.Records.{FrontsNeverFall}
use Rattle.council_core.specs.Sequential.{AreLegalRecords, replies_of, state_after}
use Rattle.two_copy_steps.specs.Effects.{SequentialRun, effects, sequential_steps, sequential_replies}
use Rattle.two_copy_steps.specs.Runs.{machine_after, auxiliary_after, ReportsReplies, KeepsRecordsReported}

-- the start over a legal journal whose sheet is in range meets the invariant
abbrev pub StartLaw : Type 0
StartLaw = (ledger : Ledger) (readers : ℕ) → IsPublishable ledger.opening ledger.journal
    → IsLawfulMachine IsPublishable (machine_at_start ledger readers) (auxiliary_start ledger readers)

-- a reader's step keeps the invariant of words and views
abbrev pub ReaderLaw : Type 0
ReaderLaw = (opening : Opening) (s : State) → IsLawfulBoard opening s → (r : ℕ) (v : ReaderView)
    → slice_get s.readers r ≡ Some v → IsLawfulBoard opening (read_by s r v)

-- the writer's step keeps the invariant of words and views
abbrev pub WriterLaw : Type 0
WriterLaw = (opening : Opening) (s : State) → IsLawfulBoard opening s → IsLawfulBoard opening (written_by opening s)

-- the beginning of a publication keeps the invariant of words and views, for any legal list that
-- extends the one last staged and whose sheet is in range
abbrev pub BeginLaw : Type 0
BeginLaw = (opening : Opening) (s : State) → IsLawfulBoard opening s → (commands rest : List Command)
    → IsPublishable opening commands → s.writer.state.staged ++ rest ≡ commands
    → IsLawfulBoard opening (begun_by s commands)

-- in every state that meets the invariant the records are legal
abbrev pub StateRecordsLaw : Type 0
StateRecordsLaw = (opening : Opening) (s : State) → IsLawfulBoard opening s
    → AreLegalRecords opening s.writer.state.published s.writer.cuts (map (λ v. v.readings) s.readers)

-- in every such state no reader holds the copy into which the writer's next step stores a word
abbrev pub StateUnderLaw : Type 0
StateUnderLaw = (opening : Opening) (s : State) → IsLawfulBoard opening s
    → IsApart s.writer.state (map (λ v. v.stage) s.readers)

-- in every such state each reader has a legal record and words of a sheet
abbrev pub StateKnownLaw : Type 0
StateKnownLaw = (opening : Opening) (s : State) → IsLawfulBoard opening s → (r : ℕ) (v : ReaderView)
    → slice_get s.readers r ≡ Some v → IsKnown opening v

-- the transition at a step of the writer is the writer's step of words and views
abbrev pub WriterTransitionLaw : Type 0
WriterTransitionLaw = (m : MachineState) (a : Auxiliary)
    → state_of (transition m Writer).0 (auxiliary_step m a Writer) ≡ written_by m.ledger.opening (state_of m a)

-- the transition at a step of a reader is that reader's step of words and views
abbrev pub ReaderTransitionLaw : Type 0
ReaderTransitionLaw =
    (m : MachineState) (a : Auxiliary) → length a.records ≡ length m.readers → (r : ℕ) (stage : Stage)
    → slice_get m.readers r ≡ Some stage
    → state_of (transition m (Reader (suc r))).0 (auxiliary_step m a (Reader (suc r)))
    ≡ read_by (state_of m a) r (record { stage = stage; readings = record_at a.records r })

-- a publication that begins stages the whole journal, and changes no word
abbrev pub BeginTransitionLaw : Type 0
BeginTransitionLaw = (m : MachineState) (a : Auxiliary) → (transition m Publish).1 ≡ Began
    → state_of (transition m Publish).0 (auxiliary_step m a Publish) ≡ begun_by (state_of m a) m.ledger.journal

-- a publication that does not begin leaves words and views unchanged, and so does a command
abbrev pub IdleTransitionLaw : Type 0
IdleTransitionLaw = (m : MachineState) (a : Auxiliary) → (transition m Publish).1 ≢ Began
    → state_of (transition m Publish).0 (auxiliary_step m a Publish) ≡ state_of m a

abbrev pub SubmitTransitionLaw : Type 0
SubmitTransitionLaw = (m : MachineState) (a : Auxiliary) (command : Command)
    → state_of (transition m (Submit command)).0 (auxiliary_step m a (Submit command)) ≡ state_of m a

-- a blocking reader is the first that is not quiescent, and its pin is 1; the abandoned publication
-- does not change which readers are quiescent
abbrev pub BusyLaw : Type 0
BusyLaw =
    (m : MachineState) (a : Auxiliary) → IsLawfulMachine IsPublishable m a → (event : Event) (number : ℕ)
    → (transition m event).1 ≡ Busy number
    → (r : ℕ) × (number ≡ suc r) × IsLeastUnseen m.writer.seen_out r × (slice_index m.words (pin r) ≡ 1)
    × ((transition m event).0.writer.seen_out ≡ m.writer.seen_out)

-- quiescent readers stay quiescent until side is stored
abbrev pub StayLaw : Type 0
StayLaw = (m : MachineState) (event : Event) → stores_side event m.writer.phase ≡ false
    → StaySeen m.writer.seen_out (transition m event).0.writer.seen_out

-- if all readers are quiescent, a publication that begins fills at once
abbrev pub AtOnceLaw : Type 0
AtOnceLaw = (m : MachineState) → all_true m.writer.seen_out ≡ true → (transition m Publish).1 ≡ Began
    → (transition m Publish).0.writer.phase ≡ Filling 0

-- each step advances a reader by one of the steps of a reading
abbrev pub StepCountLaw : Type 0
StepCountLaw =
    (r found : ℕ) (stage : Stage) → IsReadable stage
    → (steps_taken stage ≤ last_step)
    × (steps_taken ((stage_action r stage).after found)
    ≡ (if steps_taken stage == last_step then 0 else steps_taken stage + 1))

-- the load of the last word is the only step that adds to a reader's record, and it adds the loaded
-- words
abbrev pub GrowthLaw : Type 0
GrowthLaw =
    (r found : ℕ) (v : ReaderView) → IsReadable v.stage → let w = (reader_action r v).after found in
    (steps_taken v.stage ≢ last_load → w.readings ≡ v.readings)
    × (steps_taken v.stage ≡ last_load
    → (words : List ℕ) × (sheet_read w.stage ≡ Some words) × (w.readings ≡ v.readings ++ words ∷ []))

-- each event keeps the machine's invariant, with its cuts and records
abbrev pub EventLaw : Type 0
EventLaw = (m : MachineState) (a : Auxiliary) → IsLawfulMachine IsPublishable m a
    → IsPublishable m.ledger.opening m.ledger.journal
    → (event : Event) → IsLawfulMachine IsPublishable (transition m event).0 (auxiliary_step m a event)

-- each event keeps the journal legal and within its limit
abbrev pub LedgerLaw : Type 0
LedgerLaw = (m : MachineState) → IsLedger m.ledger → (event : Event) → IsLedger (transition m event).0.ledger

-- a register whose members and commands have votes in range
abbrev pub HasVotesInRange : Ledger → Type 0
HasVotesInRange ledger = IsOpening ledger.opening × All SetsInRange ledger.journal

-- an event that submits a command submits one whose votes are in range
abbrev pub SubmitsInRange : Event → Type 0
SubmitsInRange (Submit command) = SetsInRange command
SubmitsInRange event = Unit {0}

-- each such event keeps the votes in range, and the journal publishable
abbrev pub RangeLaw : Type 0
RangeLaw = (m : MachineState) → IsLedger m.ledger → HasVotesInRange m.ledger → (event : Event)
    → SubmitsInRange event → HasVotesInRange (transition m event).0.ledger
    × IsPublishable (transition m event).0.ledger.opening (transition m event).0.ledger.journal

-- over every list of events the records are legal
abbrev pub RecordsLaw : Type 0
RecordsLaw = (ledger : Ledger) (readers : ℕ) → IsLedger ledger → (events : List Event)
    → let m = machine_after ledger readers events in let a = auxiliary_after ledger readers events
    in AreLegalRecords m.ledger.opening m.writer.published a.cuts a.records

-- over every list of events no reader holds the copy into which the writer's next step stores a
-- word
abbrev pub UnderLaw : Type 0
UnderLaw = (ledger : Ledger) (readers : ℕ) → IsLedger ledger → (events : List Event)
    → let m = machine_after ledger readers events in IsApart m.writer m.readers

-- over every list of events every output that answers a call equals the sequential register's reply
-- at the call's linearization point
abbrev pub RepliesLaw : Type 0
RepliesLaw = (ledger : Ledger) (readers : ℕ) → IsLedger ledger → (events : List Event)
    → ReportsReplies ledger readers events

-- over every list of events each reader's record is the sheets in its outputs, followed by the
-- words of the reading that it is about to leave
abbrev pub OutputsLaw : Type 0
OutputsLaw =
    (ledger : Ledger) (readers : ℕ) → (events : List Event)
    → KeepsRecordsReported ledger readers events (notes (machine_at_start ledger readers) events)

-- over every list of events no output of a reader has an older sheet than one before it
abbrev pub NeverOlderLaw : Type 0
NeverOlderLaw = (ledger : Ledger) (readers : ℕ) → IsLedger ledger → (events : List Event)
    → FrontsNeverFall (notes (machine_at_start ledger readers) events)

-- a reader that is at rest after some events later reads nothing older than what was published by
-- then
abbrev pub FreshLaw : Type 0
FreshLaw =
    (ledger : Ledger) (readers : ℕ) → IsLedger ledger → (events more : List Event) (r : ℕ) (words : List ℕ)
    → slice_get (machine_after ledger readers events).readers r ≡ Some AtRest
    → (transition (machine_after ledger readers (events ++ more)) (Reader (suc r))).1 ≡ Read (suc r) words
    → length (machine_after ledger readers events).writer.published ≤ front_of words

-- the replies with which events are compared, one by one, are those of one run of the sequential
-- register over the list of their calls, and both runs end in the same state
abbrev pub EffectsLaw : Type 0
EffectsLaw =
    (t : SequentialRun) (m : MachineState) (events : List Event)
    → (replies_of t.register (effects m events) ≡ sequential_replies t m events)
    × (state_after t.register (effects m events) ≡ (sequential_steps t m events).register)

-- the outputs of one list followed by another are those of the first, followed by those of the
-- second from the machine with which the first ended
abbrev pub NotesLaw : Type 0
NotesLaw = (m : MachineState) (events more : List Event)
    → notes m (events ++ more) ≡ notes m events ++ notes (state_after_events m events) more

-- the machine after both lists is the machine after the second, from the machine with which the
-- first ended
abbrev pub AfterLaw : Type 0
AfterLaw = (m : MachineState) (events more : List Event)
    → state_after_events m (events ++ more) ≡ state_after_events (state_after_events m events) more
