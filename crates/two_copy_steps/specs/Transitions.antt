-- The machine as contracts see it, and its transition at each event: the machine after it, and the
-- output.
use Rattle.std.specs.Prelude.{ℕ, zero, suc, ◌+◌, Bool, true, false, List, [], ◌∷◌, ◌++◌, length}
use Rattle.std.specs.Prelude.{replicate, slice_index, slice_get, slice_set, if◌then◌else◌, ◌==◌, nat_lt}
use Rattle.std.specs.Prelude.{Option, None, Some, Result, Ok, Err, ⊤}
use Rattle.council_core.specs.declared.commands.Command.{Command}
use Rattle.council_core.specs.declared.refusals.Refusal.{Refusal}
use Rattle.council_core.specs.Rolls.{sheet}
use Rattle.council_core.specs.Ledgers.{Ledger, verdict_of, ledger_with, sheet_of}
use Rattle.two_copy_steps.specs.declared.events.Event.{Event}
use Rattle.two_copy_steps.specs.declared.events.Event.TheVariants.{Submit, Publish, Writer, Reader}
use Rattle.two_copy_steps.specs.declared.events.Note.{Note}
use Rattle.two_copy_steps.specs.declared.events.Note.TheVariants.{Accepted, Refused, Began, Moved, Published, Busy}
use Rattle.two_copy_steps.specs.declared.events.Note.TheVariants.{Read, Skipped}
use Rattle.two_copy_steps.specs.declared.views.Writing.{Writing}
use Rattle.two_copy_steps.specs.declared.views.Stage.{Stage}
use Rattle.two_copy_steps.specs.declared.views.Stage.TheVariants.{AtRest, Leaving}
use Rattle.two_copy_steps.specs.declared.views.Phase.{Phase}
use Rattle.two_copy_steps.specs.declared.views.Phase.TheVariants.{Idle, Seeing, Filling, Swapping}
use Rattle.two_copy_steps.specs.Actions.{first_false, stage_action, writing_action, writing_of_staged}

-- the register, the words (word 0 is side, then copy 0, copy 1 and a pin for each reader), the
-- writer's state, and each reader's stage
pub record MachineState : Type 0 where
  pub ledger : Ledger
  pub words : List ℕ
  pub writer : Writing
  pub readers : List Stage

abbrev pub is_idle : Phase → Bool
is_idle Idle = true
is_idle phase = false

-- both copies have the register's sheet, and all readers are quiescent and at rest
abbrev pub machine_at_start : Ledger → ℕ → MachineState
machine_at_start ledger readers =
    record {
      ledger = ledger;
      words = 0 ∷ sheet_of ledger ++ sheet_of ledger ++ replicate readers 0;
      writer = record {
        side = 0;
        published = ledger.journal;
        staged = ledger.journal;
        phase = Idle;
        seen_out = replicate readers true;
      };
      readers = replicate readers AtRest;
    }

-- a command is submitted to the register: the register after its verdict, and the output
abbrev pub ledger_and_note : Ledger → Command → Result ⊤ Refusal → Ledger × Note
ledger_and_note ledger command (Ok u) = (ledger_with ledger command, Accepted (length ledger.journal + 1))
ledger_and_note ledger command (Err refusal) = (ledger, Refused refusal)

abbrev pub machine_and_note : MachineState → Command → Result ⊤ Refusal → MachineState × Note
machine_and_note m command v =
    let after = ledger_and_note m.ledger command v in (record m { ledger = after.0 }, after.1)

-- a publication of the whole journal begins, if commands are pending
abbrev pub published_by : MachineState → Bool → MachineState × Note
published_by m true = (record m { writer = writing_of_staged m.ledger.journal m.writer }, Began)
published_by m false = (m, Published (length m.writer.published))

-- whether the register has accepted more commands than are published
abbrev pub is_pending : MachineState → Bool
is_pending m = nat_lt (length m.writer.published) (length m.ledger.journal)

-- the output of the writer's step, by its phase and the number found in its word
abbrev pub phase_note : Writing → Phase → ℕ → Note
phase_note w Idle found = Skipped
phase_note w Seeing found = if found == 0 then Moved else Busy (suc (first_false w.seen_out))
phase_note w (Filling k) found = Moved
phase_note w Swapping found = Published (length w.staged)

-- the transition of the writer
abbrev pub writer_transition : MachineState → MachineState × Note
writer_transition m =
    let d = writing_action (sheet m.ledger.opening) m.writer in
    let found = slice_index m.words d.word in (
      record m { words = slice_set m.words d.word (d.becomes found); writer = d.after found },
      phase_note m.writer m.writer.phase found,
    )

-- the output of the step of the reader with this number, by its stage
abbrev pub stage_note : ℕ → Stage → Note
stage_note number (Leaving side words) = Read number words
stage_note number stage = Moved

-- the machine after the reader at r takes its step
abbrev pub after_reader_step : MachineState → ℕ → Stage → MachineState
after_reader_step m r stage =
    let d = stage_action r stage in
    let found = slice_index m.words d.word in
    record m { words = slice_set m.words d.word (d.becomes found); readers = slice_set m.readers r (d.after found) }

-- the transition of the reader at r, if there is one
abbrev pub reader_transition : MachineState → ℕ → Option Stage → MachineState × Note
reader_transition m r None = (m, Skipped)
reader_transition m r (Some stage) = (after_reader_step m r stage, stage_note (suc r) stage)

-- the transition at an event: the machine after it, and the output
abbrev pub transition : MachineState → Event → MachineState × Note
transition m (Submit command) =
    if is_idle m.writer.phase then machine_and_note m command (verdict_of m.ledger command) else (m, Skipped)
transition m Publish = if is_idle m.writer.phase then published_by m (is_pending m) else (m, Skipped)
transition m Writer = writer_transition m
transition m (Reader zero) = (m, Skipped)
transition m (Reader (suc r)) = reader_transition m r (slice_get m.readers r)

-- the machine after a list of events
abbrev pub state_after_events : MachineState → List Event → MachineState
state_after_events m [] = m
state_after_events m (event ∷ events) = state_after_events (transition m event).0 events

-- the outputs of the events, in order
abbrev pub notes : MachineState → List Event → List Note
notes m [] = []
notes m (event ∷ events) = (transition m event).1 ∷ notes (transition m event).0 events
