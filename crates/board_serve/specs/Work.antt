-- The work of the threads of a run.
use Rattle.std.specs.Prelude.{◌≡◌, ℕ, ◌≤◌, ◌*◌, ◌⊎◌, ◌++◌, List, [], ◌∷◌, length, map, replicate, All}
use Rattle.std.specs.Prelude.{slice_get, take, vec_len, IfSome, Option, Some, Result, Ok, Err}
use Rattle.std.specs.List.{flat_map}
use Rattle.std.specs.Option.{option_or}
use Rattle.std.specs.Result.{result_err}
use Rattle.std.specs.Vec.{vec_capacity}
use Rattle.council_core.specs.Coalitions.{omega_of}
use Rattle.council_core.specs.Sequential.{Sequential, Reply, WouldAccept, answered, ordered, reading, replies_of}
use Rattle.council_core.specs.Sequential.{state_after}
use Rattle.council_core.specs.Sheets.{front_of, open_chairs}
use Rattle.council_core.specs.declared.refusals.Refusal.TheVariants as refusal
use Rattle.majority_rule.specs.Winning.{rule_of}
use Rattle.majority_rule.specs.declared.majorities.Majority.{Majority}
use Rattle.two_copy_steps.specs.Lawful.{last_front}
use Rattle.two_copy_steps.specs.Stages.{reading_steps}
use Rattle.two_copy_steps.specs.declared.events.Event.TheVariants.{Reader}
use Rattle.board_share.specs.Analysts.{AnalystState}
use Rattle.board_share.specs.Histories.{Adds, is_readers}
use Rattle.board_share.specs.Readers.{IsLegalSheet, number_of}
use Rattle.board_share.specs.Writers.{WriterState}
use Rattle.board_text.specs.Text.{fault_at}
use Rattle.board_text.specs.declared.stops.Stop.{Stop}
use Rattle.board_text.specs.declared.stops.Stop.TheVariants as stop
use Rattle.council_core.specs.declared.calls.Order.{Order}
use Rattle.council_core.specs.declared.calls.Answer.TheVariants as answer
use Rattle.board_serve.specs.declared.reader_work.ReaderWork.{ReaderWork}
use Rattle.board_serve.specs.declared.threads.AllWork.{AllWork}
use Rattle.board_serve.specs.declared.writer_work.WriterWork.{WriterWork}

-- a writer as a sequential register
abbrev pub register_of : WriterState → Sequential
register_of p = record { ledger = p.ledger; published = length p.published }

-- the number that a reply returns, if it is the reply to a publication
abbrev pub cuts_of_reply : Reply → List ℕ
cuts_of_reply (answered (answer.Accepted n)) = []
cuts_of_reply (answered (answer.Refused why)) = []
cuts_of_reply (answered (answer.Published n)) = n ∷ []
cuts_of_reply (reading words) = []

-- the numbers that publications returned, in order
abbrev pub cuts_of : List Reply → List ℕ
cuts_of replies = flat_map cuts_of_reply replies

-- a gate was closed
abbrev pub IsClosed : Stop → Type 0
IsClosed e = e ≡ stop.Fault (fault_at refusal.GateClosed 0)

-- the error keeps this order from being carried out: no memory for a command that the register would
-- accept, or a closed gate
abbrev pub StopsAt : Sequential → Order → Stop → Type 0
StopsAt s order e = ((e ≡ stop.OutOfMemory) × WouldAccept s order) ⊎ IsClosed e

-- the error stops the writer at one of these orders, after those before it were carried out
abbrev pub StopsWithin : Sequential → List Order → Stop → Type 0
StopsWithin s orders e = (place : ℕ) × (order : Order) × (slice_get orders place ≡ Some order)
    × StopsAt (state_after s (map ordered (take place orders))) order e

-- how the threads of the writer and of both readers ended: each by the error that stopped it, or with its work done
pub record ThreadEnds : Type 0 where
  pub writer : Option Stop
  pub first : Option Stop
  pub second : Option Stop

-- how the threads with these three results ended
abbrev pub ends_of : {A B : Type 0} → Result A Stop → Result B Stop → Result B Stop → ThreadEnds
ends_of writer first second =
    record { writer = result_err writer; first = result_err first; second = result_err second }

-- the threads can end so over this register: a reader is stopped by a closed gate alone
pub record CanEnd (start : Sequential) (orders : List Order) (ends : ThreadEnds) : Type 0 where
  pub writer : IfSome ends.writer (StopsWithin start orders)
  pub first : IfSome ends.first IsClosed
  pub second : IfSome ends.second IsClosed

-- the error that is returned: the writer's, else that of reader 1, else that of reader 2. Only the writer's can be out
-- of memory, so that comes before a closed gate
abbrev pub returned_stop : ThreadEnds → Option Stop
returned_stop ends = option_or ends.writer (option_or ends.first ends.second)

-- the error that stops the work of all threads: out of memory, or the returned one
abbrev pub StopsAll : Sequential → List Order → Stop → Type 0
StopsAll start orders e =
    (e ≡ stop.OutOfMemory) ⊎ ((ends : ThreadEnds) × CanEnd start orders ends × (returned_stop ends ≡ Some e))

-- nothing is stored yet, and there is room for each of the orders
pub record CanWrite (work : WriterWork) : Type 0 where
  pub no_answers : work.answers.items ≡ []
  pub no_cuts : work.cuts.items ≡ []
  pub answers_fit : vec_len work.orders ≤ vec_capacity work.answers
  pub cuts_fit : vec_len work.orders ≤ vec_capacity work.cuts

-- a writer carried out these orders: its answers are the sequential register's replies to them, its
-- register and published commands are those after them, the cuts are the numbers that its
-- publications returned, and its table is the same
pub record IsWritten (before : WriterState) (orders : List Order) (done : WriterWork) : Type 0 where
  pub answers : map answered done.answers.items ≡ replies_of (register_of before) (map ordered orders)
  pub register : register_of done.writer ≡ state_after (register_of before) (map ordered orders)
  pub cuts : done.cuts.items ≡ cuts_of (replies_of (register_of before) (map ordered orders))
  pub table : done.writer.table ≡ before.table

-- the orders were carried out, or the writer was stopped at one of them
abbrev pub HasWritten : WriterWork → Result WriterWork Stop → Type 0
HasWritten work (Ok done) = IsWritten work.writer work.orders.items done
HasWritten work (Err e) = StopsWithin (register_of work.writer) work.orders.items e

-- nothing is stored yet, and there is room for each of the readings
pub record CanAsk (work : ReaderWork) : Type 0 where
  pub no_sheets : work.sheets.items ≡ []
  pub no_winning : work.winning.items ≡ []
  pub sheets_fit : vec_len work.asked ≤ vec_capacity work.sheets
  pub winning_fit : vec_len work.asked ≤ vec_capacity work.winning

-- the number of winning coalitions of a sheet at a majority
abbrev pub omega_at : Majority → List ℕ → ℕ
omega_at m words = omega_of (rule_of m words) (open_chairs words)

-- by sheet, the number of winning coalitions at the sheet's majority
abbrev pub omegas : List Majority → List (List ℕ) → List ℕ
omegas [] sheets = []
omegas (m ∷ ms) [] = []
omegas (m ∷ ms) (words ∷ sheets) = omega_at m words ∷ omegas ms sheets

-- fronts never decrease, and the first is at least `low`
abbrev pub IsRising : ℕ → List (List ℕ) → Type 0
IsRising low [] = Unit {0}
IsRising low (words ∷ sheets) = (low ≤ front_of words) × IsRising (front_of words) sheets

-- a reader of one table took one whole reading for each sheet and no other step: its record grew by
-- exactly these sheets, each the sheet after some legal list of commands, with fronts that never
-- decrease
pub record IsReadFrom (before : AnalystState) (done : ReaderWork) : Type 0 where
  pub table : done.analyst.reader.table ≡ before.reader.table
  pub number : number_of done.analyst.reader ≡ number_of before.reader
  pub steps : Adds (is_readers (number_of before.reader))
      (replicate (length done.sheets.items * reading_steps) (Reader (number_of before.reader)))
      before.reader.history done.analyst.reader.history
  pub opening : done.analyst.reader.opening ≡ before.reader.opening
  pub grown : done.analyst.reader.readings ≡ before.reader.readings ++ done.sheets.items
  pub legal : All (IsLegalSheet before.reader.opening) done.sheets.items
  pub rising : IsRising (last_front 0 before.reader.readings) done.sheets.items

-- one sheet for each record, and omega of it at the record's majority
pub record IsRead (asked : List Majority) (done : ReaderWork) : Type 0 where
  pub count : length done.sheets.items ≡ length asked
  pub winning : done.winning.items ≡ omegas asked done.sheets.items

-- one reader did its work: one reading for each record, with omega at the record's majority
pub record AreRead (work done : ReaderWork) : Type 0 where
  pub grown : IsReadFrom work.analyst done
  pub read : IsRead work.asked.items done

-- the readings were taken, or a gate was closed
abbrev pub HasAsked : ReaderWork → Result ReaderWork Stop → Type 0
HasAsked work (Ok done) = AreRead work done
HasAsked work (Err e) = IsClosed e

-- the work of all threads can be done
pub record AreReady (work : AllWork) : Type 0 where
  pub writer : CanWrite work.writer
  pub first : CanAsk work.first
  pub second : CanAsk work.second

-- the work of all threads is done
pub record AreDone (work done : AllWork) : Type 0 where
  pub written : IsWritten work.writer.writer work.writer.orders.items done.writer
  pub first : AreRead work.first done.first
  pub second : AreRead work.second done.second
