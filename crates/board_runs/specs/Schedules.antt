-- The meaning of the records of a schedule.
use Rattle.std.specs.Prelude.{ℕ, List, [], ◌∷◌, Bool, true, Option, Some, None, Result}
use Rattle.std.specs.Prelude.{if◌then◌else◌, option_map, codes}
use Rattle.std.specs.Option.{option_and_then}
use Rattle.std.specs.Str.{bytes_eq}
use Rattle.council_core.specs.declared.commands.Command.{Command}
use Rattle.council_core.specs.declared.refusals.Refusal.{Refusal}
use Rattle.two_copy_steps.specs.declared.events.Event.{Event}
use Rattle.two_copy_steps.specs.declared.events.Event.TheVariants as event
use Rattle.board_text.specs.Numbers.{number_of_digits}
use Rattle.board_text.specs.Requests.{Row, command_of}
use Rattle.board_text.specs.Text.{is_reader, valid_or_refused}
use Rattle.board_text.specs.Words.{pair_of, number_within}
use Rattle.board_text.specs.declared.bounds.Limits.{Limits}
use Rattle.board_runs.specs.declared.schedules.TheConstants.{MAX_STEPS}

-- an event of the machine, and how often it is taken
abbrev pub Events : Type 0
Events = Event × ℕ

-- a number of steps: from 1 to MAX_STEPS
abbrev pub count_of : List ℕ → Option ℕ
count_of field = option_and_then (number_within 1 MAX_STEPS) (number_of_digits field)

-- a command is submitted once
abbrev pub one_submission : Command → Events
one_submission command = (event.Submit command, 1)

abbrev pub steps_of_writer : ℕ → Events
steps_of_writer count = (event.Writer, count)

abbrev pub steps_of_reader : ℕ → ℕ → Events
steps_of_reader reader count = (event.Reader reader, count)

-- `submit` followed by the fields of a command record
abbrev pub submission_of : List ℕ → Row → Option Events
submission_of word fields =
    if bytes_eq word (codes "submit") then option_map one_submission (command_of fields) else None

-- the events of a record in a schedule, if it is well formed
abbrev pub events_of : Row → Option Events
events_of (word ∷ []) = if bytes_eq word (codes "publish") then Some (event.Publish, 1) else None
events_of (word ∷ a ∷ []) = if bytes_eq word (codes "writer") then option_map steps_of_writer (count_of a) else None
events_of (word ∷ a ∷ b ∷ []) =
    if bytes_eq word (codes "reader") then pair_of steps_of_reader (number_of_digits a) (count_of b)
    else submission_of word (a ∷ b ∷ [])
events_of (word ∷ a ∷ b ∷ c ∷ []) = submission_of word (a ∷ b ∷ c ∷ [])
events_of _ = None

-- whether the limits have the actor of an event: the writer, or this reader
abbrev pub has_actor : Limits → Event → Bool
has_actor lim (event.Reader number) = is_reader lim number
has_actor lim (event.Submit command) = true
has_actor lim event.Publish = true
has_actor lim event.Writer = true

-- the events of a record, if it is well formed and its reader number is in range
abbrev pub events_within : Limits → Row → Result Events Refusal
events_within lim row = valid_or_refused (λ e. has_actor lim e.0) (events_of row)
