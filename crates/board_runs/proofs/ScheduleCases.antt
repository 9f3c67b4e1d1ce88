-- The records and the lines of a schedule, computed; and instances of its law.
use Rattle.std.proofs.Common.{◌≡◌, ◌++◌, ◌^◌, ℕ, List, [], ◌∷◌, map, replicate, true, false, Some, None, Ok, Err, refl, arith}
use Rattle.std.specs.Prelude.{codes}
use Rattle.std.specs.Fmt.{digits}
use Rattle.csv.specs.Reading.{default_config, records}
use Rattle.council_core.specs.declared.commands.Command.TheVariants.{Open, Move}
use Rattle.council_core.specs.declared.refusals.Refusal.TheVariants.{BadReader, BadRecord, ChairOpen}
use Rattle.two_copy_steps.specs.declared.events.Event.TheVariants as event
use Rattle.two_copy_steps.specs.declared.events.Note.TheVariants as note
use Rattle.two_copy_steps.specs.declared.table.TheConstants.{READERS as MACHINE_READERS}
use Rattle.board_text.specs.Text.{run_limits}
use Rattle.board_text.specs.Writing.{Field}
use Rattle.board_text.specs.declared.bounds.TheConstants.{READERS}
use Rattle.board_runs.specs.Notes.{note_lines}
use Rattle.board_runs.specs.Schedules.{count_of, events_of, events_within}
use Rattle.board_runs.specs.Writing.{AreEvents, ScheduleLaw, events_row}
use Rattle.board_runs.specs.declared.schedules.TheConstants.{MAX_STEPS}

-- a schedule takes from 1 to 1,000 steps at once, and commands after the word submit
most_steps : MAX_STEPS ≡ 1000
most_steps = refl

steps_at_once : (count_of (codes "0") ≡ None) × (count_of (codes "1") ≡ Some 1) × (count_of (codes "1000") ≡ Some 1000) × (count_of (codes "1001") ≡ None)
steps_at_once = (refl, refl, refl, refl)

abbrev AAA : List ℕ
AAA = 65 ∷ 65 ∷ 65 ∷ []

events : (events_of (codes "publish" ∷ []) ≡ Some (event.Publish, 1)) × (events_of (codes "writer" ∷ codes "5" ∷ []) ≡ Some (event.Writer, 5)) × (events_of (codes "reader" ∷ codes "2" ∷ codes "5" ∷ []) ≡ Some (event.Reader 2, 5)) × (events_of (codes "submit" ∷ codes "open" ∷ codes "2" ∷ []) ≡ Some (event.Submit (Open 2), 1)) × (events_of (codes "submit" ∷ codes "move" ∷ codes "AAA" ∷ codes "2" ∷ []) ≡ Some (event.Submit (Move AAA (Some 2)), 1))
events = (refl, refl, refl, refl, refl)

no_events : (events_of (codes "submit" ∷ []) ≡ None) × (events_of (codes "submits" ∷ codes "open" ∷ codes "2" ∷ []) ≡ None) × (events_of (codes "writer" ∷ codes "1001" ∷ []) ≡ None) × (events_of (codes "open" ∷ codes "2" ∷ []) ≡ None) × (events_of [] ≡ None)
no_events = (refl, refl, refl, refl, refl)

events_refused : (events_within (run_limits 2 9) (codes "reader" ∷ codes "3" ∷ codes "5" ∷ []) ≡ Err BadReader) × (events_within (run_limits 2 9) (codes "reader" ∷ codes "3" ∷ codes "0" ∷ []) ≡ Err BadRecord) × (events_within (run_limits 2 9) (codes "reader" ∷ codes "2" ∷ codes "5" ∷ []) ≡ Ok (event.Reader 2, 5))
events_refused = (refl, refl, refl)

-- the limits allow as many readers as the machine has at most
readers_of_the_machine : READERS ≡ MACHINE_READERS
readers_of_the_machine = refl

-- the lines of each output of the machine
printed_notes : (note_lines (note.Accepted 6) ≡ codes "accepted,6" ∷ []) × (note_lines (note.Refused ChairOpen) ≡ codes "refused,1,ChairOpen" ∷ []) × (note_lines note.Began ≡ codes "began" ∷ []) × (note_lines (note.Published 6) ≡ codes "published,6" ∷ []) × (note_lines (note.Busy 2) ≡ codes "busy,2" ∷ []) × (note_lines note.Skipped ≡ codes "skipped" ∷ [])
unfolding digits
printed_notes = (refl, refl, refl, refl, refl, refl)

-- chair 1 with 60 of 100 votes, after five commands
abbrev one_chair : List ℕ
one_chair = 61 ∷ replicate 31 0 ++ 100 ∷ 5 ∷ []

printed_sheet : note_lines (note.Read 4 one_chair) ≡ codes "sheet,4,5,60,100" ∷ []
unfolding digits
printed_sheet = refl

move_prints_nothing : note_lines note.Moved ≡ []
move_prints_nothing = refl

-- the law of schedules at a record with a quoted field
abbrev quoted : List ℕ → Field
quoted bytes = record { bytes = bytes; quoted = true }

abbrev plain : List ℕ → Field
plain bytes = record { bytes = bytes; quoted = false }

schedule_law_used : ScheduleLaw → map events_of (records default_config (codes "reader,2,\"5\"\n")) ≡ Some (event.Reader 2, 5) ∷ []
unfolding digits
schedule_law_used law = law (event.Reader 2, 5) (omega arith, (omega arith, omega arith)) (plain (codes "reader") ∷ plain (codes "2") ∷ quoted (codes "5") ∷ []) refl

-- what is out of range has a record that reads as nothing
too_many_steps_read : events_of (events_row (event.Writer, 1001)) ≡ None
unfolding digits
too_many_steps_read = refl

submits_chair_33 : AreEvents (event.Submit (Open 33), 1) → ⊥
submits_chair_33 are = let command = are.0 in omega (arith, command.1)

submits_twice : AreEvents (event.Submit (Open 2), 2) → ⊥
submits_twice are = omega (arith, are.1)

publishes_twice : AreEvents (event.Publish, 2) → ⊥
publishes_twice are = omega (arith, are)

no_step : AreEvents (event.Writer, 0) → ⊥
no_step are = omega (arith, are.0)

too_many_steps : AreEvents (event.Reader 1, 1001) → ⊥
too_many_steps are = let count = are.1 in omega (arith, count.1)

steps_as_too_many : AreEvents (event.Reader (2 ^ 64), 1) → ⊥
steps_as_too_many are = omega (arith, are.0)
