-- The history of a board: its origin, and the events of all seats since.
use Rattle.std.specs.Prelude.{◌≡◌, ℕ, ◌==◌, Bool, true, false, List, [], ◌++◌, map, drop, length}
use Rattle.std.specs.Prelude.{Option, None}
use Rattle.std.specs.List.{filter, last_or}
use Rattle.council_core.specs.declared.commands.Command.{Command}
use Rattle.two_copy_steps.specs.declared.events.Event.{Event}
use Rattle.two_copy_steps.specs.declared.events.Event.TheVariants.{Submit, Reader}
use Rattle.two_copy_steps.specs.declared.events.Note.{Note}
use Rattle.two_copy_steps.specs.declared.views.WriterView.{WriterView}
use Rattle.two_copy_steps.specs.Lawful.{State}
use Rattle.two_copy_steps.specs.Transitions.{MachineState, machine_at_start, notes}
use Rattle.two_copy_steps.specs.Auxiliary.{state_of}
use Rattle.two_copy_steps.specs.Runs.{machine_after, auxiliary_after}
use Rattle.board_share.specs.declared.views.ShareStart.{ShareStart}
use Rattle.board_share.specs.declared.views.History.{History}

-- the machine of one thread after these events
abbrev pub machine_of : History → MachineState
machine_of h = machine_after h.origin.register h.origin.readers h.events

-- the words, and the views of the writer and of each reader, after these events
abbrev pub known_after : History → State
known_after h = state_of (machine_of h) (auxiliary_after h.origin.register h.origin.readers h.events)

-- after a history, the machine's writer has this view, and its register holds the staged commands
pub record KnowsAfter (h : History) (v : WriterView) : Type 0 where
  pub writer : (known_after h).writer ≡ v
  pub register : (machine_of h).ledger ≡ record h.origin.register { journal = v.state.staged }

-- the outputs of the events, in order
abbrev pub reported_in : History → List Note
reported_in h = notes (machine_at_start h.origin.register h.origin.readers) h.events

-- the output of the last event
abbrev pub last_reported : History → Option Note
last_reported h = last_or None (reported_in h)

-- the history at the start, with no events
abbrev pub first_history : ShareStart → History
first_history origin = record { origin = origin; events = [] }

-- a history with more events appended
abbrev pub history_with : History → List Event → History
history_with h events = record h { events = h.events ++ events }

-- whether an event belongs to the writer
abbrev pub is_writers : Event → Bool
is_writers (Reader number) = false
is_writers event = true

-- whether an event belongs to the reader of this number
abbrev pub is_readers : ℕ → Event → Bool
is_readers number (Reader n) = n == number
is_readers number event = false

-- the later history extends the earlier one, and the events added for which `is_own` holds are
-- exactly `own`
pub record Adds (is_own : Event → Bool) (own : List Event) (before after : History) : Type 0 where
  pub events : List Event
  pub longer_by : after ≡ history_with before events
  pub own_are : filter is_own events ≡ own

-- the submit events at the start of a publication: the commands of the journal after those already
-- staged
abbrev pub handed_over : List Command → List Command → List Event
handed_over staged journal = map Submit (drop (length staged) journal)
