-- The state of a reader in contracts, and how its seat holds it.
use Rattle.std.specs.Prelude.{◌≡◌, ℕ, suc, ◌<◌, ◌++◌, List, [], ◌∷◌, Option, None, Some}
use Rattle.std.specs.Prelude.{replicate, slice_get}
use Rattle.std.specs.List.{last_or}
use Rattle.std.specs.Option.{unwrap_or}
use Rattle.atomic_table.specs.Table.{Me}
use Rattle.atomic_table.specs.Seated.{TableId}
use Rattle.council_core.specs.Rolls.{Opening, IsLegal, sheet}
use Rattle.council_core.specs.Sequential.{AreLegalRecords}
use Rattle.council_core.specs.declared.commands.Command.{Command}
use Rattle.two_copy_steps.specs.declared.events.Event.TheVariants.{Reader}
use Rattle.two_copy_steps.specs.declared.events.Note.TheVariants.{Read}
use Rattle.two_copy_steps.specs.declared.views.ReaderView.{ReaderView}
use Rattle.two_copy_steps.specs.declared.views.Stage.{Stage}
use Rattle.two_copy_steps.specs.declared.views.Stage.TheVariants.{AtRest}
use Rattle.two_copy_steps.specs.Actions.{pin, reader_action}
use Rattle.two_copy_steps.specs.Lawful.{last_front}
use Rattle.two_copy_steps.specs.Stages.{reading_steps}
use Rattle.two_copy_steps.specs.States.{IsKnown}
use Rattle.two_copy_steps.specs.Transitions.{stage_note}
use Rattle.two_copy_steps.specs.declared.table.TheConstants.{READERS}
use Rattle.board_share.specs.declared.views.View.{View}
use Rattle.board_share.specs.declared.views.ShareStart.{ShareStart}
use Rattle.board_share.specs.declared.views.History.{History}
use Rattle.board_share.specs.Histories.{Adds, first_history, is_readers, known_after, last_reported}
use Rattle.board_share.specs.Seats.{Part, as_reader, seat_of_reader}
use Rattle.board_share.specs.Rule.{first_reader}
use Rattle.board_share.specs.Steps.{bare_seat}

-- the table of shared words that the reader reads, the members and votes of the opening, the
-- reader's index, counted from 0, its stage, its readings so far, and the history of the board up
-- to its last step
pub record ReaderState : Type 0 where
  pub table : TableId
  pub opening : Opening
  pub index : ℕ
  pub stage : Stage
  pub readings : List (List ℕ)
  pub history : History

abbrev pub known_by : ReaderState → ReaderView
known_by p = record { stage = p.stage; readings = p.readings }

-- a reader of a table with no readings
abbrev pub new_reader : TableId → ShareStart → ℕ → ReaderState
new_reader table origin r = record {
  table = table;
  opening = origin.register.opening;
  index = r;
  stage = AtRest;
  readings = [];
  history = first_history origin;
}

-- the reader took one step of the machine, with some number found in its word
pub record TookStep (before after : ReaderState) : Type 0 where
  pub found : ℕ
  pub knows : known_by after ≡ (reader_action before.index (known_by before)).after found

-- the reader's number, counted from 1
abbrev pub number_of : ReaderState → ℕ
number_of p = suc p.index

-- the reader added exactly `steps` steps to its history, and has the view of the machine's reader
-- after them
pub record TookSteps (steps : ℕ) (before after : ReaderState) : Type 0 where
  pub adds : Adds (is_readers (number_of before)) (replicate steps (Reader (number_of before))) before.history
      after.history
  pub knows : slice_get (known_after after.history).readers after.index ≡ Some (known_by after)

-- the last output in the reader's history is that it ended a reading with these words
abbrev pub WasReported : ReaderState → List ℕ → Type 0
WasReported p words = last_reported p.history ≡ Some (Read (number_of p) words)

-- the sheet that the reader read last, if any
abbrev pub last_of : ReaderState → Option (List ℕ)
last_of p = last_or None p.readings

-- the front of the sheet that the reader read last, or 0 if there is none
abbrev pub last_front_of : ReaderState → ℕ
last_front_of p = last_front 0 p.readings

-- sheets that one reader can read of some legal list of commands and its cuts: each is the sheet of
-- a cut, and fronts never decrease
abbrev pub IsLegalRecord : Opening → List (List ℕ) → Type 0
IsLegalRecord opening sheets =
    (list : List Command) × (cuts : List ℕ) × AreLegalRecords opening list cuts (sheets ∷ [])

-- the readings are a legal record
abbrev pub HasLegalRecord : ReaderState → Type 0
HasLegalRecord p = IsLegalRecord p.opening p.readings

-- the sheet after some legal list of commands
abbrev pub IsLegalSheet : Opening → List ℕ → Type 0
IsLegalSheet opening words = (list : List Command) × IsLegal opening list × (words ≡ sheet opening list)

-- the part of a reader in a view, or that of a first reader of no members if it has none
abbrev pub part_in : View → ℕ → Part
part_in v r = unwrap_or (as_reader r v) ([], first_reader)

-- a reader, from its table, the view of its seat, its index and its stage
abbrev pub reader_at : TableId → View → ℕ → Stage → ReaderState
reader_at table v r stage = record {
  table = table;
  opening = (part_in v r).0;
  index = r;
  stage = stage;
  readings = (part_in v r).1.readings;
  history = v.history;
}

-- the view of a reader's seat
abbrev pub seat_view : ReaderState → View
seat_view p = seat_of_reader p.history p.index (p.opening, known_by p)

-- a seat of the table is that of this reader alone
pub record IsReader (table seat : TableId) (me : Me Unit View) (p : ReaderState) : Type 0 where
  pub same : seat ≡ table
  pub within : pin p.index < table.words
  pub bound : p.index < READERS
  pub alone : me ≡ bare_seat (seat_view p)
  pub known : IsKnown p.opening (known_by p)

-- after one step the seat is that of the same reader, at this stage
pub record Stepped (table : TableId) (p : ReaderState) (seat : TableId) (me : Me Unit View) (stage : Stage)
    : Type 0 where
  pub seat_is : IsReader table seat me (reader_at table me.0 p.index stage)
  pub opening_is : (reader_at table me.0 p.index stage).opening ≡ p.opening
  pub took : TookStep p (reader_at table me.0 p.index stage)
  pub steps : TookSteps 1 p (reader_at table me.0 p.index stage)
  pub reported : last_reported me.0.history ≡ Some (stage_note (number_of p) p.stage)

-- after a whole reading the seat is that of the same reader at the same stage, and its record has
-- one more sheet
pub record HasRead (table : TableId) (p : ReaderState) (seat : TableId) (me : Me Unit View) (words : List ℕ)
    : Type 0 where
  pub seat_is : IsReader table seat me (reader_at table me.0 p.index p.stage)
  pub opening_is : (reader_at table me.0 p.index p.stage).opening ≡ p.opening
  pub reading_is : (reader_at table me.0 p.index p.stage).readings ≡ p.readings ++ words ∷ []
  pub steps : TookSteps reading_steps p (reader_at table me.0 p.index p.stage)
  pub reported : WasReported (reader_at table me.0 p.index p.stage) words
