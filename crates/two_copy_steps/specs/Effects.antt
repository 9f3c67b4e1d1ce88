-- The sequential register alongside the machine: the calls that events represent, and its replies.
use Rattle.std.specs.Prelude.{◌≡◌, ℕ, zero, suc, Bool, true, false, List, [], ◌∷◌, ◌++◌, length}
use Rattle.std.specs.Prelude.{slice_get, if◌then◌else◌, ◌==◌, Option, None, Some}
use Rattle.council_core.specs.Ledgers.{Ledger}
use Rattle.council_core.specs.Sequential.{Sequential, Call, submit, publish, Reply, answered}
use Rattle.council_core.specs.Sequential.{reading, replies_of, state_after}
use Rattle.council_core.specs.Sequential as sequential
use Rattle.council_core.specs.declared.calls.Answer.TheVariants as answer
use Rattle.two_copy_steps.specs.declared.events.Event.{Event}
use Rattle.two_copy_steps.specs.declared.events.Event.TheVariants.{Submit, Publish, Writer, Reader}
use Rattle.two_copy_steps.specs.declared.events.Note.{Note}
use Rattle.two_copy_steps.specs.declared.events.Note.TheVariants.{Accepted, Refused, Began, Moved, Published, Busy}
use Rattle.two_copy_steps.specs.declared.events.Note.TheVariants.{Read}
use Rattle.two_copy_steps.specs.declared.views.Stage.{Stage}
use Rattle.two_copy_steps.specs.declared.views.Stage.TheVariants.{AtRest, Arrived}
use Rattle.two_copy_steps.specs.declared.views.Phase.{Phase}
use Rattle.two_copy_steps.specs.declared.views.Phase.TheVariants.{Swapping}
use Rattle.two_copy_steps.specs.Transitions.{MachineState, is_idle, is_pending, transition}

-- the linearization point of a reading is its load of side
abbrev pub stage_effect : Stage → List Call
stage_effect Arrived = sequential.read ∷ []
stage_effect stage = []

-- the linearization point of a publication is its store of side
abbrev pub phase_effect : Phase → List Call
phase_effect Swapping = publish ∷ []
phase_effect phase = []

abbrev pub reader_effect : Option Stage → List Call
reader_effect None = []
reader_effect (Some stage) = stage_effect stage

-- the call of the sequential register that an event represents, or none; `m` is the machine before
-- the event
abbrev pub effect : MachineState → Event → List Call
effect m (Submit command) = if is_idle m.writer.phase then submit command ∷ [] else []
effect m Publish = if is_idle m.writer.phase then (if is_pending m then [] else publish ∷ []) else []
effect m Writer = phase_effect m.writer.phase
effect m (Reader zero) = []
effect m (Reader (suc r)) = reader_effect (slice_get m.readers r)

-- the calls that a list of events represents, in order
abbrev pub effects : MachineState → List Event → List Call
effects m [] = []
effects m (event ∷ events) = effect m event ++ effects (transition m event).0 events

-- a run of the sequential register: its state, its reply to each reader's last load of side since
-- that reader arrived, and whether a publication has begun and has neither stored side nor been
-- abandoned
pub record SequentialRun : Type 0 where
  pub register : Sequential
  pub replied : ℕ → Option Reply
  pub begun : Bool

-- the run starts with this register, all of it published
abbrev pub sequential_start : Ledger → SequentialRun
sequential_start ledger = record {
  register = record { ledger = ledger; published = length ledger.journal };
  replied = λ number. None;
  begun = false;
}

-- the reply to each reader after the reader with this number takes its step at a stage: none at its
-- arrival, and the reply to a read at its load of side
abbrev pub replied_at : SequentialRun → ℕ → Stage → ℕ → Option Reply
replied_at t number AtRest k = if k == number then None else t.replied k
replied_at t number Arrived k =
    if k == number then slice_get (replies_of t.register (stage_effect Arrived)) 0 else t.replied k
replied_at t number stage k = t.replied k

abbrev pub replied_to : SequentialRun → ℕ → Option Stage → ℕ → Option Reply
replied_to t number None k = t.replied k
replied_to t number (Some stage) k = replied_at t number stage k

abbrev pub replied_after : SequentialRun → MachineState → Event → ℕ → Option Reply
replied_after t m (Reader (suc r)) k = replied_to t (suc r) (slice_get m.readers r) k
replied_after t m event k = t.replied k

-- the flag after an output: a publication begins, is abandoned, or has stored side
abbrev pub begun_after : Bool → Note → Bool
begun_after begun Began = true
begun_after begun (Busy number) = false
begun_after begun (Published front) = false
begun_after begun note = begun

-- the run after an event; `m` is the machine before the event
abbrev pub sequential_step : SequentialRun → MachineState → Event → SequentialRun
sequential_step t m event =
    record {
      register = state_after t.register (effect m event);
      replied = λ k. replied_after t m event k;
      begun = begun_after t.begun (transition m event).1;
    }

-- an output that answers a call is the sequential register's reply: to the call that the event
-- represents, or, for a reading, at that reader's last load of side since it arrived
abbrev pub OutputIsReply : List Reply → (ℕ → Option Reply) → Note → Type 0
OutputIsReply replies replied (Accepted count) = replies ≡ answered (answer.Accepted count) ∷ []
OutputIsReply replies replied (Refused why) = replies ≡ answered (answer.Refused why) ∷ []
OutputIsReply replies replied (Published front) = replies ≡ answered (answer.Published front) ∷ []
OutputIsReply replies replied (Read number words) = replied number ≡ Some (reading words)
OutputIsReply replies replied Moved = Unit {0}
OutputIsReply replies replied note = replies ≡ []

-- side is stored only after a publication has begun
abbrev pub SwapsOnce : Bool → Event → Phase → Type 0
SwapsOnce begun Writer Swapping = begun ≡ true
SwapsOnce begun event phase = Unit {0}

abbrev pub AnswersEvent : SequentialRun → MachineState → Event → Type 0
AnswersEvent t m event = OutputIsReply (replies_of t.register (effect m event)) t.replied (transition m event).1
    × SwapsOnce t.begun event m.writer.phase

-- each event of a list meets this
abbrev pub AllAnswer : SequentialRun → MachineState → List Event → Type 0
AllAnswer t m [] = Unit {0}
AllAnswer t m (event ∷ events) =
    AnswersEvent t m event × AllAnswer (sequential_step t m event) (transition m event).0 events

-- the run alongside the machine after a list of events
abbrev pub sequential_steps : SequentialRun → MachineState → List Event → SequentialRun
sequential_steps t m [] = t
sequential_steps t m (event ∷ events) = sequential_steps (sequential_step t m event) (transition m event).0 events

-- its replies to the calls that each event represents, event by event
abbrev pub sequential_replies : SequentialRun → MachineState → List Event → List Reply
sequential_replies t m [] = []
sequential_replies t m (event ∷ events) = replies_of t.register (effect m event)
    ++ sequential_replies (sequential_step t m event) (transition m event).0 events
