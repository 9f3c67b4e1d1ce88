-- How a schedule is written, and that it reads back.
use Rattle.std.specs.Prelude.{◌≡◌, ℕ, ◌≤◌, ◌<◌, ◌^◌, [], ◌∷◌, codes, decimal}
use Rattle.two_copy_steps.specs.declared.events.Event.TheVariants as event
use Rattle.board_text.specs.Laws.{ReadsBack}
use Rattle.board_text.specs.Requests.{Row}
use Rattle.board_text.specs.Writing.{IsCommand, command_row}
use Rattle.board_runs.specs.Schedules.{Events, events_of}
use Rattle.board_runs.specs.declared.schedules.TheConstants.{MAX_STEPS}

-- the fields of a record in a schedule
abbrev pub events_row : Events → Row
events_row (event.Submit command, count) = codes "submit" ∷ command_row command
events_row (event.Publish, count) = codes "publish" ∷ []
events_row (event.Writer, count) = codes "writer" ∷ decimal count ∷ []
events_row (event.Reader number, count) = codes "reader" ∷ decimal number ∷ decimal count ∷ []

-- a number of steps that one record may ask for
abbrev pub IsCount : ℕ → Type 0
IsCount count = (1 ≤ count) × (count ≤ MAX_STEPS)

-- an event that one record may ask for as often: a call of the writer once. Its command is in range, and the number of
-- its reader fits 64 bits
abbrev pub AreEvents : Events → Type 0
AreEvents (event.Submit command, count) = IsCommand command × (count ≡ 1)
AreEvents (event.Publish, count) = count ≡ 1
AreEvents (event.Writer, count) = IsCount count
AreEvents (event.Reader number, count) = (number < 2 ^ 64) × IsCount count

-- each record of a schedule, written and read back, is itself
abbrev pub ScheduleLaw : Type 0
ScheduleLaw = (events : Events) → AreEvents events → ReadsBack events_of (events_row events) events
