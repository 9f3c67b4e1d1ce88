-- The headline over a register of one member: a history whose calls are computed, and what no calls and no history can tell.
use Rattle.board_share.proofs.Names.{[], ap, arith, Arrived, AtRest, Busy, Command, false, first_history, get_elem?}
use Rattle.board_share.proofs.Names.{held_by, History, history_with, HoldsBy, Leaving, List, MayBegin, Moved, none-some}
use Rattle.board_share.proofs.Names.{number_of, Open, opening_view, Publish, Published, WriterState, Read, Reader}
use Rattle.board_share.proofs.Names.{ReaderState, Reading, refl, replicate, seat_of_reader, seat_view, SeatsReader}
use Rattle.board_share.proofs.Names.{SeatsWriter, ShareStart, Skipped, Some, some, some-injective, some-ne-none, Submit}
use Rattle.board_share.proofs.Names.{suc, sym, true, View, Writer, zero, ℕ, ◌++◌, ◌∙◌, ◌∷◌, ◌≡◌, ◌≤◌}
use Rattle.std.proofs.Common.{All}
use Rattle.std.specs.Prelude.{map, slice_set}
use Rattle.atomic_table.specs.Table as table
use Rattle.council_core.specs.Ledgers.{IsLedger}
use Rattle.council_core.specs.Sequential.{answered, reading, read, submit, publish}
use Rattle.council_core.specs.declared.calls.Answer.TheVariants as answer
use Rattle.council_core.specs.declared.commands.Command.TheVariants.{Move}
use Rattle.council_core.specs.declared.refusals.Refusal.TheVariants.{ChairOpen}
use Rattle.two_copy_steps.specs.declared.events.Note.TheVariants.{Accepted, Refused, Began}
use Rattle.board_share.specs.Headline.{CallsLaw, CallsTell, HeadlineLaw, IsAwaited, Made, ReadsFrom, Tells, TellsLaw, WritesTo, answers_in, calls_in, cuts_replied, fronts_after, published_in, replies_to}
use Rattle.board_share.specs.Histories.{reported_in}
use Rattle.board_share.specs.Laws.{ReaderStepLaw, WriterStepLaw}
use Rattle.board_share.proofs.WorkedCases.{after_events, origin, both_done, having_read, none_done, one_done, one_member, seated, table as shared}

-- a reader loads side before a publication stores it, and reads the words after; then it reads once more
abbrev overtaken : History
overtaken = after_events (Submit (Open 1) ∷ Publish ∷ Reader 1 ∷ Reader 1 ∷ [] ++ replicate 35 Writer ++ replicate 35 (Reader 1) ++ replicate 37 (Reader 1))

pub calls_overtaken : calls_in overtaken ≡ (0, submit (Open 1)) ∷ (1, read) ∷ (0, publish) ∷ (1, read) ∷ []
calls_overtaken = refl

abbrev four_calls : List Made
four_calls = (0, submit (Open 1)) ∷ (1, read) ∷ (0, publish) ∷ (1, read) ∷ []

-- its readings are of none and of one of the commands; there are two cuts
pub replies_overtaken : (replies_to 0 origin four_calls ≡ answered (answer.Accepted 1) ∷ answered (answer.Published 1) ∷ [])
    × (replies_to 1 origin four_calls ≡ reading none_done ∷ reading one_done ∷ []) × (replies_to 2 origin four_calls ≡ [])
    × (published_in origin four_calls ≡ Open 1 ∷ []) × (cuts_replied origin four_calls ≡ 0 ∷ 1 ∷ [])
replies_overtaken = (refl, refl, refl, refl, refl)

-- a register that begins with a command has published it
pub begun_with_one : (let b : ShareStart = record origin { register = record origin.register { journal = Open 1 ∷ [] } } in
    (published_in b [] ≡ Open 1 ∷ []) × (cuts_replied b ((0, publish) ∷ []) ≡ 1 ∷ []) × (replies_to 3 b ((3, read) ∷ []) ≡ reading one_done ∷ []))
begun_with_one = (refl, refl, refl)

-- a front is a cut once, and other answers are none
pub fronts_once : fronts_after 0 (answered (answer.Accepted 4) ∷ answered (answer.Published 1) ∷ answered (answer.Published 1) ∷ reading [] ∷ answered (answer.Refused ChairOpen) ∷ answered (answer.Published 3) ∷ []) ≡ 1 ∷ 3 ∷ []
fronts_once = refl

pub answers_of_three : answers_in (Accepted 1 ∷ Began ∷ Moved ∷ Read 1 [] ∷ Busy 1 ∷ Skipped ∷ Refused ChairOpen ∷ Published 1 ∷ []) ≡ answered (answer.Accepted 1) ∷ answered (answer.Refused ChairOpen) ∷ answered (answer.Published 1) ∷ []
answers_of_three = refl

-- one sheet is due while words are loaded, and none before or after
pub one_due : IsAwaited (Reading 0 []) (none_done ∷ [])
one_due = (none_done, refl)

no_item : {A : Type 0} {x : A} {xs : List A} → x ∷ xs ≡ [] → ⊥
no_item e = cc

pub two_due : IsAwaited (Reading 0 []) (none_done ∷ none_done ∷ []) → ⊥
two_due due = let e = due.1 in cc e

pub none_due_while_loading : IsAwaited (Reading 0 []) [] → ⊥
none_due_while_loading due = no_item (sym due.1)

pub due_at_rest : IsAwaited AtRest (none_done ∷ []) → ⊥
due_at_rest due = no_item due

pub due_before_side : IsAwaited Arrived (none_done ∷ []) → ⊥
due_before_side due = no_item due

pub due_twice : IsAwaited (Leaving 0 none_done) (none_done ∷ []) → ⊥
due_twice due = no_item due

-- What no calls and no history tell.

-- a table with one seat, of a reader at rest with this record
abbrev with_record : List (List ℕ) → table.State Unit View
with_record readings = table.opening [] [] (seat_view (having_read readings))

its_seat : (readings : List (List ℕ)) → SeatsReader (with_record readings) (having_read readings)
its_seat readings = (0, refl)

all_one : (s : table.State Unit View) (p : ReaderState) → SeatsReader s p → All (SeatsReader s) (p ∷ [])
all_one s p seat zero d less = seat
all_one s p seat (suc k) d less = absurd (omega arith)

-- the order: a seat that took a step that the history has not
abbrev stepped : View
stepped = seat_of_reader (after_events (Reader 1 ∷ [])) 0 (one_member, record { stage = AtRest; readings = [] })

pub step_in_no_history : Tells (first_history origin) (table.opening [] [] stepped) → ⊥
step_in_no_history h = no_item (sym (ap (λ (x : History). x.events) (h.order 0 stepped refl).whole_is))

-- and a reader that was replied what the calls that it knows don't have
pub reply_unknown : Tells overtaken (with_record (none_done ∷ one_done ∷ [])) → ⊥
reply_unknown h = no_item (sym (h.reads (having_read (none_done ∷ one_done ∷ [])) (its_seat (none_done ∷ one_done ∷ []))))

-- the records: a reader that read an older version after a newer one, by any calls
pub older_after_newer : (calls : List Made) → CallsTell origin calls (with_record (both_done ∷ none_done ∷ [])) → ⊥
older_after_newer calls h =
    let readings : List (List ℕ) = both_done ∷ none_done ∷ [] in
    let falls : 2 ≤ 0 = (h.records (having_read readings ∷ []) (all_one (with_record readings) (having_read readings) (its_seat readings))).readings.0.2.1 in
    omega arith

-- and one that read words of no cut
pub sheet_of_no_cut : (calls : List Made) → CallsTell origin calls (with_record ([] ∷ [])) → ⊥
sheet_of_no_cut calls h =
    let e = (h.records (having_read ([] ∷ []) ∷ []) (all_one (with_record ([] ∷ [])) (having_read ([] ∷ [])) (its_seat ([] ∷ [])))).readings.0.0.2 in
    no_item (sym e)

-- a reading that was never called, though it is of a cut
pub reading_uncalled : CallsTell origin [] (with_record (none_done ∷ [])) → ⊥
reading_uncalled h = no_item (sym (h.readers (having_read (none_done ∷ [])) (its_seat (none_done ∷ []))).replies)

-- a reading that no event put out
pub reading_from_nowhere : Tells (first_history origin) (with_record (none_done ∷ [])) → ⊥
reading_from_nowhere h = no_item (h.sheets (having_read (none_done ∷ [])) (its_seat (none_done ∷ [])))

-- a reading that was called and is lost, by a reader at rest
pub reading_lost : ReadsFrom origin ((1, read) ∷ []) (having_read []) → ⊥
reading_lost h = no_item (h.replies ∙ ap (map reading) h.is_due)

-- a reader of other members
pub other_members : (p : ReaderState) → (p.opening ≡ one_member → ⊥) → ReadsFrom origin [] p → ⊥
other_members p other h = other h.opening

-- a writer that has published one of two commands, by the calls that did it
abbrev one_published : List Made
one_published = (0, submit (Open 1)) ∷ (0, publish) ∷ []

abbrev writer_of : List Command → List Command → List ℕ → WriterState
writer_of journal published cuts = record {
  table = shared;
  ledger = record origin.register { journal = journal };
  published = published;
  cuts = cuts;
  seen_out = false ∷ [];
  history = first_history origin;
}

pub writes_one : WritesTo origin one_published (writer_of seated (Open 1 ∷ []) (0 ∷ 1 ∷ []))
writes_one = record { opening = refl; accepted = (Move (65 ∷ 65 ∷ 65 ∷ []) (Some 1) ∷ [], refl); published = refl; cuts = refl }

pub published_less : WritesTo origin one_published (writer_of seated [] (0 ∷ 1 ∷ [])) → ⊥
published_less h = no_item (sym h.published)

pub cut_missed : WritesTo origin one_published (writer_of seated (Open 1 ∷ []) (0 ∷ [])) → ⊥
cut_missed h = let e = h.cuts in cc e

pub accepted_less : WritesTo origin one_published (writer_of [] (Open 1 ∷ []) (0 ∷ 1 ∷ [])) → ⊥
accepted_less h = no_item (sym h.accepted.1)

pub of_other_members : (b : WriterState) → (b.ledger.opening ≡ one_member → ⊥) → WritesTo origin one_published b → ⊥
of_other_members b other h = other h.opening

-- the seat with which a board begins is that of its writer, who may have accepted more; a reader's seat is that of no writer
abbrev first_seat : table.State Unit View
first_seat = table.opening [] [] (opening_view origin)

abbrev first_writer : WriterState
first_writer = record (writer_of seated [] (0 ∷ [])) { seen_out = true ∷ [] }

pub writer_seated : SeatsWriter first_seat first_writer
writer_seated = (0, opening_view origin, refl, record { writes = refl; staged = (seated, refl); same = refl })

pub reader_not_writer : (b : WriterState) → SeatsWriter (with_record []) b → ⊥
reader_not_writer b seat = no_seat seat.0 seat.1 seat.2 seat.3.writes
  where
    no_seat : (id : ℕ) (v : View) → get_elem? (seat_view (having_read []) ∷ []) id ≡ some v → v.writer ≡ Some (b.ledger.opening, held_by v) → ⊥
    no_seat zero v at writes = none-some (b.ledger.opening, held_by v) (ap (λ (x : View). x.writer) (some-injective (seat_view (having_read [])) v at) ∙ writes)
    no_seat (suc id) v at writes = some-ne-none v (sym at)

-- it has published nothing, so calls that publish don't tell what it knows, nor does a history with answers that it doesn't know
pub published_unknown : CallsTell origin one_published first_seat → ⊥
published_unknown h = no_item (sym (h.writer first_writer writer_seated).published)

pub answers_unknown : Tells overtaken first_seat → ⊥
answers_unknown h = no_item (sym (h.orders first_writer writer_seated))

-- what the law gives of each seat, part by part
module _ (h : History) (s : table.State Unit View) (tells : Tells h s) where
  answers_are_replies : answers_in (reported_in h) ≡ replies_to 0 h.origin (calls_in h)
  answers_are_replies = tells.answers

  reads_known : (p : ReaderState) → SeatsReader s p → replies_to (number_of p) h.origin (calls_in p.history) ≡ replies_to (number_of p) h.origin (calls_in h)
  reads_known = tells.reads

  orders_known : (b : WriterState) → SeatsWriter s b → replies_to 0 h.origin (calls_in b.history) ≡ replies_to 0 h.origin (calls_in h)
  orders_known = tells.orders

  writer_told : (b : WriterState) → SeatsWriter s b → WritesTo h.origin (calls_in h) b
  writer_told = tells.calls.writer

-- the laws speak of this board
module _ (holds : ShareStart → table.State Unit View → Type 0) (s : table.State Unit View) (ledger : IsLedger origin.register) (held : holds origin s) where
  told_of_this_board : HeadlineLaw holds → (h : History) × (h.origin ≡ origin) × Tells h s
  told_of_this_board law = law origin s ledger held

  called_on_this_board : CallsLaw holds → (calls : List Made) × CallsTell origin calls s
  called_on_this_board law = law origin s ledger held

-- and of this history; a step of a reader at rest adds one event and stores 1 in its pin
module _ (h : History) (s : table.State Unit View) (by : HoldsBy origin h s) where
  told_of_this_history : TellsLaw → IsLedger origin.register → Tells h s
  told_of_this_history law ledger = law origin h s ledger by

  reader_arrives : ReaderStepLaw → get_elem? s.views 0 ≡ some (seat_view (having_read [])) → (next : table.State Unit View) × HoldsBy origin (history_with h (Reader 1 ∷ [])) next × (next.words ≡ slice_set s.words 69 1)
  reader_arrives law seat = (_, law origin h s 0 (having_read []) by seat, refl)

  -- the first step of a publication adds the commands, the beginning and the load of a pin
  publication_begins : WriterStepLaw → get_elem? s.views 0 ≡ some (opening_view origin) → MayBegin (first_history origin) one_member (held_by (opening_view origin)) (Some seated)
      → (next : table.State Unit View) × HoldsBy origin (history_with h (map Submit seated ++ Publish ∷ Writer ∷ [])) next
  publication_begins law seat may = (_, law origin h s 0 (opening_view origin) one_member (held_by (opening_view origin)) (Some seated) by seat refl may)
