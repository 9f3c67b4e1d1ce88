-- Histories of a board over a register of one member, computed; and what definitions must not hold of.
use Rattle.board_share.proofs.Names.{[], Adds, ap, Arrived, AtRest, Busy, Command, Event, false, filter, first_history}
use Rattle.board_share.proofs.Names.{first_reader, History, history_with, Idle, is_writers, IsLegalSheet, last_reported}
use Rattle.board_share.proofs.Names.{Ledger, List, look_count, new_reader, new_readers, None, Open, Opening}
use Rattle.board_share.proofs.Names.{opening_view, Part, publication_steps, Publish, Published, Read, Reader, reader_at}
use Rattle.board_share.proofs.Names.{ReaderState, refl, replicate, seat_of_reader, ShareStart, Some, Submit, TableId}
use Rattle.board_share.proofs.Names.{TookStep, true, View, Writer, ℕ, ◌++◌, ◌∙◌, ◌∷◌, ◌≡◌}
use Rattle.council_core.specs.declared.commands.Command.TheVariants.{Move}
use Rattle.board_share.specs.Openings.{share_start, new_writer}
use Rattle.board_share.specs.Readers.{HasLegalRecord, WasReported, last_front_of, last_of, part_in}
use Rattle.board_share.specs.Writers.{publication}

abbrev pub one_member : Opening
one_member = (65 ∷ 65 ∷ 65 ∷ [], 10) ∷ []

-- a chair is opened, and the member moves into it
abbrev pub seated : List Command
seated = Open 1 ∷ Move (65 ∷ 65 ∷ 65 ∷ []) (Some 1) ∷ []

-- the sheets after none, one and both of the commands
abbrev pub none_done : List ℕ
none_done = replicate 32 0 ++ 10 ∷ 0 ∷ []

abbrev pub one_done : List ℕ
one_done = 1 ∷ replicate 31 0 ++ 10 ∷ 1 ∷ []

abbrev pub both_done : List ℕ
both_done = 11 ∷ replicate 31 0 ++ 10 ∷ 2 ∷ []

-- a board over that register, with one reader
abbrev pub origin : ShareStart
origin = record { register = record { opening = one_member; journal = []; limit = 100 }; readers = 1 }

-- the events of a publication: the commands are submitted, it begins, and steps are taken
pub handed : publication (history_with (first_history origin) (Submit (Open 1) ∷ [])) seated 2 ≡ Submit (Move (65 ∷ 65 ∷ 65 ∷ []) (Some 1)) ∷ Publish ∷ Writer ∷ Writer ∷ []
handed = refl

-- with one of two readers quiescent, it needs a load, the stores of the words, and the store of
-- side
pub steps_of_one : publication_steps (true ∷ false ∷ []) ≡ 36
steps_of_one = refl

pub looks_at_two : look_count (false ∷ false ∷ []) (true ∷ false ∷ []) ≡ 2
looks_at_two = refl

-- the output of a publication's last step is the number of published commands, and that of a
-- reading is the sheet read
abbrev pub after_events : List Event → History
after_events events = history_with (first_history origin) events

pub reports_published : last_reported (after_events (Submit (Open 1) ∷ Publish ∷ [] ++ replicate 35 Writer)) ≡ Some (Published 1)
reports_published = refl

pub reports_the_reader : last_reported (after_events (replicate 37 (Reader 1))) ≡ Some (Read 1 none_done)
reports_the_reader = refl

-- after the second step of the reader a second publication is abandoned
pub reports_busy : last_reported (after_events (Submit (Open 1) ∷ Publish ∷ [] ++ replicate 35 Writer ++ Reader 1 ∷ Submit (Move (65 ∷ 65 ∷ 65 ∷ []) (Some 1)) ∷ Publish ∷ Writer ∷ [])) ≡ Some (Busy 1)
reports_busy = refl

-- an event of the writer can't be added and not counted
pub uncounted : Adds is_writers [] (first_history origin) (after_events (Writer ∷ [])) → ⊥
uncounted h = none (ap (filter is_writers) (ap (λ (x : History). x.events) h.longer_by) ∙ h.own_are)
  where
    none : Writer ∷ [] ≡ [] → ⊥
    none e = cc

-- a table of the words that one reader needs
abbrev pub table : TableId
table = record { words = 70; slots = 0; views_name = 0; atom = 0; block = 0; offset = 0; slot_names = [] }

-- the front of the last reading, or 0 before the first
abbrev pub having_read : List (List ℕ) → ReaderState
having_read readings = record (new_reader table origin 0) { readings = readings }

pub front_of_last : last_front_of (having_read (none_done ∷ both_done ∷ [])) ≡ 2
front_of_last = refl

pub front_of_none : last_front_of (having_read []) ≡ 0
front_of_none = refl

-- words of no sheet are in no legal record, and are no legal sheet
no_words : {x : ℕ} {xs : List ℕ} → [] ≡ x ∷ xs → ⊥
no_words e = cc

pub no_record : HasLegalRecord (having_read ([] ∷ [])) → ⊥
no_record h = no_words h.2.readings.0.0.2

pub no_sheet : IsLegalSheet one_member [] → ⊥
no_sheet h = no_words h.2

-- a reader that stays at rest took no step
pub no_step : TookStep (having_read []) (having_read []) → ⊥
no_step h = stays (ap (λ v. v.stage) h.knows)
  where
    stays : AtRest ≡ Arrived → ⊥
    stays e = cc

-- a board begins with a register and its readers
pub begins_with : share_start origin.register 1 ≡ origin
begins_with = refl

-- its writer has published the journal by one cut, and all readers are quiescent
abbrev one_open : Ledger
one_open = record { opening = one_member; journal = Open 1 ∷ []; limit = 100 }

pub first_writer : new_writer table one_open 2 ≡ record {
  table = table;
  ledger = one_open;
  published = Open 1 ∷ [];
  cuts = 1 ∷ [];
  seen_out = true ∷ true ∷ [];
  history = record { origin = record { register = one_open; readers = 2 }; events = [] };
}
first_writer = refl

-- its readers are at rest, in order, and have read nothing
abbrev unread : ℕ → ReaderState
unread r = record { table = table; opening = one_member; index = r; stage = AtRest; readings = []; history = record { origin = origin; events = [] } }

pub first_readers : (new_readers table origin 0 ≡ []) × (new_readers table origin 3 ≡ unread 0 ∷ unread 1 ∷ unread 2 ∷ [])
first_readers = (refl, refl)

pub unread_view : (first_reader.stage ≡ AtRest) × (first_reader.readings ≡ [])
unread_view = (refl, refl)

-- its first seat holds the writer and all readers
pub whole_seat : opening_view origin ≡ record {
  writer = Some (
    one_member,
    record {
      state = record { side = 0; published = []; staged = []; phase = Idle; seen_out = true ∷ [] };
      cuts = 0 ∷ [];
    },
  );
  readers = Some (one_member, record { stage = AtRest; readings = [] }) ∷ [];
  history = record { origin = origin; events = [] };
}
whole_seat = refl

-- the part of a reader in a seat, or that of a first reader if the seat doesn't have it
abbrev second_part : Part
second_part = (one_member, record { stage = Arrived; readings = none_done ∷ [] })

abbrev second_seat : View
second_seat = seat_of_reader (first_history origin) 1 second_part

pub parts_of_seats : (part_in second_seat 1 ≡ second_part) × (part_in second_seat 0 ≡ ([], record { stage = AtRest; readings = [] }))
    × (part_in second_seat 2 ≡ ([], first_reader))
parts_of_seats = (refl, refl, refl)

pub reader_of_seat : reader_at table (seat_of_reader (first_history origin) 1 second_part) 1 Arrived
    ≡ record { table = table; opening = one_member; index = 1; stage = Arrived; readings = none_done ∷ []; history = first_history origin }
reader_of_seat = refl

-- the last reading, if there is one
pub last_reading : (last_of (having_read (none_done ∷ both_done ∷ [])) ≡ Some both_done) × (last_of (having_read []) ≡ None)
last_reading = (refl, refl)

-- a reading was reported if its reader's history ends with it: no other sheet, no other reader's, and nothing after it
abbrev after_reading : ℕ → List Event → ReaderState
after_reading r more = record (new_reader table origin r) { history = after_events (replicate 37 (Reader 1) ++ more) }

pub was_reported : WasReported (after_reading 0 []) none_done
was_reported = refl

pub another_sheet : WasReported (after_reading 0 []) both_done → ⊥
another_sheet reported = let e = reported in cc e

pub another_reader : WasReported (after_reading 1 []) none_done → ⊥
another_reader reported = let e = reported in cc e

pub before_the_last_event : WasReported (after_reading 0 (Reader 1 ∷ [])) none_done → ⊥
before_the_last_event reported = let e = reported in cc e
