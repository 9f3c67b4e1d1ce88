-- The state of the writer in contracts, and how its seat holds it.
use Rattle.std.specs.Prelude.{◌≡◌, ℕ, zero, suc, ◌+◌, ◌-◌, ◌<◌, ◌≤◌, Bool, false, List, [], ◌∷◌, ◌++◌}
use Rattle.std.specs.Prelude.{if◌then◌else◌, length, replicate, nat_lt, Option, Some, None, not}
use Rattle.std.specs.List.{filter}
use Rattle.std.specs.Option.{unwrap_or}
use Rattle.atomic_table.specs.Table.{Me}
use Rattle.atomic_table.specs.Seated.{TableId}
use Rattle.council_core.specs.Rolls.{Opening, sheet}
use Rattle.council_core.specs.Ledgers.{Ledger}
use Rattle.council_core.specs.declared.commands.Command.{Command}
use Rattle.two_copy_steps.specs.declared.events.Event.{Event}
use Rattle.two_copy_steps.specs.declared.events.Event.TheVariants.{Publish, Writer}
use Rattle.two_copy_steps.specs.declared.events.Note.{Note}
use Rattle.two_copy_steps.specs.declared.events.Note.TheVariants.{Busy, Published}
use Rattle.two_copy_steps.specs.declared.views.WriterView.{WriterView}
use Rattle.two_copy_steps.specs.declared.views.Phase.{Phase}
use Rattle.two_copy_steps.specs.declared.views.Phase.TheVariants.{Idle}
use Rattle.two_copy_steps.specs.Actions.{Action, all_true, first_false, other_side, pin, writer_action, filling_phase}
use Rattle.two_copy_steps.specs.Lawful.{IsPublishable, IsPrefix}
use Rattle.two_copy_steps.specs.Publications.{StaySeen}
use Rattle.two_copy_steps.specs.Transitions.{is_idle}
use Rattle.two_copy_steps.specs.declared.table.TheConstants.{COPY_WORDS, READERS}
use Rattle.board_share.specs.declared.views.View.{View}
use Rattle.board_share.specs.declared.views.History.{History}
use Rattle.board_share.specs.Histories.{Adds, KnowsAfter, handed_over, is_writers, known_after, last_reported, machine_of}
use Rattle.board_share.specs.Steps.{WriterActed, begin_events, writer_begun_with, with_writer}

-- a writer that has published nothing
abbrev pub first_writer : WriterView
first_writer = record {
  state = record { side = 0; published = []; staged = []; phase = Idle; seen_out = [] };
  cuts = [];
}

-- the writer's part of a view, or that of a first writer of no members if it has none
abbrev pub writer_or : Option (Opening × WriterView) → Opening × WriterView
writer_or part = unwrap_or part ([], first_writer)

abbrev pub held_by : View → WriterView
held_by v = (writer_or v.writer).1

-- a publication of these commands may begin: none is in progress, and they are a publishable list
-- within the register's limit that extends the list staged last and is longer than the published
-- list
pub record MayPublish (h : History) (opening : Opening) (v : WriterView) (list : List Command) : Type 0 where
  pub idle : v.state.phase ≡ Idle
  pub publishable : IsPublishable opening list
  pub within : length list ≤ h.origin.register.limit
  pub extends : IsPrefix v.state.staged list
  pub more : length v.state.published < length list

-- a publication of these commands, if any, may begin
abbrev pub MayBegin : History → Opening → WriterView → Option (List Command) → Type 0
MayBegin h opening v None = Unit {0}
MayBegin h opening v (Some list) = MayPublish h opening v list

-- the writer's seat of a table while no publication is in progress; its side and its quiescent
-- readers are stored alongside it
pub record IsWriter (table seat : TableId) (me : Me Unit View) (ledger : Ledger) (side : ℕ) (seen_out : List Bool)
    : Type 0 where
  pub same : seat ≡ table
  pub within : pin (length seen_out) ≤ table.words
  pub bound : length seen_out ≤ READERS
  pub writes : me.0.writer ≡ Some (ledger.opening, held_by me.0)
  pub bare : me.1 ≡ []
  pub two : side < 2
  pub idle : (held_by me.0).state.phase ≡ Idle
  pub side_is : (held_by me.0).state.side ≡ side
  pub out_is : (held_by me.0).state.seen_out ≡ seen_out
  pub staged_begins : IsPrefix (held_by me.0).state.staged ledger.journal
  pub published_begins : IsPrefix (held_by me.0).state.published ledger.journal
  pub ledger_is : ledger ≡ record me.0.history.origin.register { journal = ledger.journal }
  pub knows : KnowsAfter me.0.history (held_by me.0)

-- the next step of the writer's seat; it begins a publication of these commands, if any
abbrev pub next_action : Option (List Command) → Me Unit View → Action WriterView
next_action list me = let w = writer_or me.0.writer in writer_action (sheet w.0) (writer_begun_with list w.1)

-- the requirements of a step of the writer's seat: its word, and what the word becomes
pub record MayWrite (table seat : TableId) (me : Me Unit View) (list : Option (List Command)) (index : ℕ)
    : Type 0 where
  pub same : seat ≡ table
  pub within : index < table.words
  pub writes : me.0.writer ≡ Some (writer_or me.0.writer)
  pub bare : me.1 ≡ []
  pub may_begin : MayBegin me.0.history (writer_or me.0.writer).0 (writer_or me.0.writer).1 list
  pub word : index ≡ (next_action list me).word

-- the writer's seat took its step, which left this number in its word
pub record SeatStepped (list : Option (List Command)) (found : ℕ) (seat seat' : TableId) (me me' : Me Unit View)
    : Type 0 where
  pub same : seat' ≡ seat
  pub next : me' ≡ (with_writer me.0 (writer_or me.0.writer).0 ((next_action list me).after found) me'.0.history, me.1)
  pub acted : WriterActed list found me.0.history me'.0.history (writer_or me.0.writer).1 (writer_or me'.0.writer).1

-- the number of readers that are not quiescent
abbrev pub not_quiescent : List Bool → ℕ
not_quiescent seen_out = length (filter not seen_out)

-- the steps of a publication: a load of the pin of each reader that is not quiescent, a store of
-- each word, and a store of side
abbrev pub publication_steps : List Bool → ℕ
publication_steps seen_out = not_quiescent seen_out + (COPY_WORDS + 1)

-- the steps of an abandoned publication: a load for each reader that it found quiescent, and one
-- for the blocking reader
abbrev pub look_count : List Bool → List Bool → ℕ
look_count before after = not_quiescent before - not_quiescent after + 1

-- the commands of the publication that begins with the next step of the writer's seat, unless one is
-- in progress
abbrev pub due_at : Me Unit View → List Command → Option (List Command)
due_at me journal = if is_idle (held_by me.0).state.phase then Some journal else None

-- the writer's view in a publication of these commands, by its view before
abbrev pub publishing_view : WriterView → List Command → List Bool → Phase → WriterView
publishing_view v journal out phase =
    record v { state = record v.state { staged = journal; seen_out = out; phase = phase } }

-- `steps` steps of a publication of the register's commands were taken since the seat `start`: these
-- readers are quiescent, and the writer's next step is at this phase
pub record Publishing (ledger : Ledger) (start me : Me Unit View) (steps : ℕ) (out : List Bool) (phase : Phase)
    : Type 0 where
  pub writes : me.0.writer ≡ Some (ledger.opening, held_by me.0)
  pub bare : me.1 ≡ []
  pub view : writer_begun_with (due_at me ledger.journal) (held_by me.0)
      ≡ publishing_view (held_by start.0) ledger.journal out phase
  pub may_begin : MayBegin me.0.history ledger.opening (held_by me.0) (due_at me ledger.journal)
  pub own : List Event
  pub adds : Adds is_writers own start.0.history me.0.history
  pub whole : own ++ begin_events (due_at me ledger.journal) (held_by me.0)
      ≡ begin_events (Some ledger.journal) (held_by start.0) ++ replicate steps Writer

-- word k of the sheet is the next to be stored in this copy, in some publication
pub record IsFilling (table seat : TableId) (me : Me Unit View) (ledger : Ledger) (copy k : ℕ) : Type 0 where
  pub same : seat ≡ table
  pub within : pin 0 ≤ table.words
  pub start : Me Unit View
  pub steps : ℕ
  pub out : List Bool
  pub publishing : Publishing ledger start me steps out (filling_phase k)
  pub copy_is : copy ≡ other_side (held_by start.0).state.side

-- in every publication the words from `from` up to, but not including, `to` were stored, in `count`
-- steps
abbrev pub HasFilled : Ledger → ℕ → ℕ → ℕ → Me Unit View → Me Unit View → Type 0
HasFilled ledger count from to me me' =
    (start : Me Unit View) (steps : ℕ) (out : List Bool)
    → Publishing ledger start me steps out (filling_phase from)
    → Publishing ledger start me' (steps + count) out (filling_phase to)

-- `steps` steps of a publication were taken since the seat `start`; the writer's view after them,
-- and the output of the last one
pub record WriterTook (ledger : Ledger) (start me : Me Unit View) (steps : ℕ) (v : WriterView) (note : Note)
    : Type 0 where
  pub writes : me.0.writer ≡ Some (ledger.opening, v)
  pub bare : me.1 ≡ []
  pub adds : Adds is_writers (begin_events (Some ledger.journal) (held_by start.0) ++ replicate steps Writer)
      start.0.history me.0.history
  pub knows : KnowsAfter me.0.history v
  pub reported : last_reported me.0.history ≡ Some note

-- the writer's view after a publication of these commands
abbrev pub published_view : WriterView → List Command → ℕ → WriterView
published_view v journal readers = record {
  state = record {
    side = other_side v.state.side;
    published = journal;
    staged = journal;
    phase = Idle;
    seen_out = replicate readers false;
  };
  cuts = v.cuts ++ length journal ∷ [];
}

-- the register's commands were published, with these readers quiescent before
abbrev pub HasPublished : Ledger → Me Unit View → Me Unit View → List Bool → Type 0
HasPublished ledger start me out =
    WriterTook ledger start me (publication_steps out) (published_view (held_by start.0) ledger.journal (length out))
    (Published (length ledger.journal))

-- a publication was abandoned because of the blocking reader: the first that is not quiescent,
-- counted from 1
pub record GaveUp (ledger : Ledger) (start me : Me Unit View) (before after : List Bool) (reader : ℕ) : Type 0 where
  pub took : WriterTook ledger start me (look_count before after)
      (publishing_view (held_by start.0) ledger.journal after Idle) (Busy reader)
  pub stay : StaySeen before after
  pub named : (reader ≡ suc (first_false after)) × (all_true after ≡ false)

-- the state of a `Writer`, whose calls are whole: the table of shared words that it writes, its
-- register, the published commands, the lengths of the lists published so far, the quiescent
-- readers, and the history of the board up to its last step
pub record WriterState : Type 0 where
  pub table : TableId
  pub ledger : Ledger
  pub published : List Command
  pub cuts : List ℕ
  pub seen_out : List Bool
  pub history : History

-- the state of a writer with this table, register and view of its seat
abbrev pub writer_at : TableId → Ledger → View → WriterState
writer_at table ledger v = record {
  table = table;
  ledger = ledger;
  published = (held_by v).state.published;
  cuts = (held_by v).cuts;
  seen_out = (held_by v).state.seen_out;
  history = v.history;
}

-- a view is that of this writer's seat, and the commands staged there are the first that the writer
-- has accepted
pub record IsViewOf (b : WriterState) (v : View) : Type 0 where
  pub writes : v.writer ≡ Some (b.ledger.opening, held_by v)
  pub staged : IsPrefix (held_by v).state.staged b.ledger.journal
  pub same : b ≡ writer_at b.table b.ledger v

-- more commands are accepted than published
abbrev pub has_pending : WriterState → Bool
has_pending b = nat_lt (length b.published) (length b.ledger.journal)

-- the events of a publication that begins after a history with this journal and takes `steps` steps
abbrev pub publication : History → List Command → ℕ → List Event
publication h journal steps = handed_over (machine_of h).ledger.journal journal ++ Publish ∷ replicate steps Writer

-- one publication was begun, and completed or abandoned, in `steps` steps; the rest of the writer's
-- state agrees with the machine's writer after them
pub record TookTry (steps : ℕ) (before after : WriterState) : Type 0 where
  pub adds : Adds is_writers (publication before.history before.ledger.journal steps) before.history after.history
  pub published : after.published ≡ (known_after after.history).writer.state.published
  pub cuts : after.cuts ≡ (known_after after.history).writer.cuts
  pub seen_out : after.seen_out ≡ (known_after after.history).writer.state.seen_out

-- one publication was completed after this number of abandoned attempts
abbrev pub TookTries : ℕ → WriterState → WriterState → Type 0
TookTries zero before after = TookTry (publication_steps before.seen_out) before after
TookTries (suc tries) before after =
    (between : WriterState) × TookTry (look_count before.seen_out between.seen_out) before between
    × (between.ledger ≡ before.ledger) × TookTries tries between after

-- the cuts after a publication: one more if a command was pending
abbrev pub cuts_after : WriterState → List ℕ
cuts_after b = if has_pending b then b.cuts ++ length b.ledger.journal ∷ [] else b.cuts

-- the quiescent readers after a publication: none if a command was pending
abbrev pub seen_out_after : WriterState → List Bool
seen_out_after b = if has_pending b then replicate (length b.seen_out) false else b.seen_out
