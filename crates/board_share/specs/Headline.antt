-- The headline of a running board: one history, and one run of the sequential register over its
-- calls, give all that the writer and the readers know.
use Rattle.std.specs.Prelude.{◌≡◌, ℕ, List, [], ◌∷◌, ◌++◌, length, map, take, All, if◌then◌else◌, ◌==◌}
use mathlib.Core.Option.{some}
use lib.ListN.{get_elem?}
use Rattle.atomic_table.specs.Table as table
use Rattle.council_core.specs.Ledgers.{IsLedger}
use Rattle.council_core.specs.Sequential.{Sequential, Call, Reply, answered, reading, response_to, state_after}
use Rattle.council_core.specs.Sequential.{AreLegalRecords}
use Rattle.council_core.specs.declared.calls.Answer.TheVariants as answer
use Rattle.council_core.specs.declared.commands.Command.{Command}
use Rattle.two_copy_steps.specs.declared.events.Event.{Event}
use Rattle.two_copy_steps.specs.declared.events.Event.TheVariants.{Reader}
use Rattle.two_copy_steps.specs.declared.events.Note.{Note}
use Rattle.two_copy_steps.specs.declared.events.Note.TheVariants.{Accepted, Refused, Published}
use Rattle.two_copy_steps.specs.declared.views.Stage.{Stage}
use Rattle.two_copy_steps.specs.declared.views.Stage.TheVariants.{Reading}
use Rattle.two_copy_steps.specs.Effects.{effect}
use Rattle.two_copy_steps.specs.Lawful.{IsPrefix}
use Rattle.two_copy_steps.specs.Records.{sheets_reported}
use Rattle.two_copy_steps.specs.Stages.{about_to_leave}
use Rattle.two_copy_steps.specs.Transitions.{MachineState, machine_at_start, transition}
use Rattle.board_share.specs.declared.views.View.{View}
use Rattle.board_share.specs.declared.views.ShareStart.{ShareStart}
use Rattle.board_share.specs.declared.views.History.{History}
use Rattle.board_share.specs.Histories.{history_with, machine_of, reported_in}
use Rattle.board_share.specs.Laws.{SeatsReader, SeatsWriter}
use Rattle.board_share.specs.Readers.{ReaderState, number_of}
use Rattle.board_share.specs.Rule.{HoldsBy, KnowsPrefix}
use Rattle.board_share.specs.Writers.{WriterState}

-- The sequential register. Each call comes with its maker: the number of the reader, or 0 for the
-- writer.
abbrev pub Made : Type 0
Made = ℕ × Call

-- before a board's first call its whole journal is published
abbrev pub register_before : ShareStart → Sequential
register_before origin = record { ledger = origin.register; published = length origin.register.journal }

abbrev pub register_after : ShareStart → List Made → Sequential
register_after origin calls = state_after (register_before origin) (map (λ x. x.1) calls)

-- the commands that the register has published after these calls
abbrev pub published_in : ShareStart → List Made → List Command
published_in origin calls = let s = register_after origin calls in take s.published s.ledger.journal

-- in one run over all calls, the replies to the calls of this maker, in order
abbrev pub replies_from : ℕ → Sequential → List Made → List Reply
replies_from number s [] = []
replies_from number s (x ∷ calls) =
    (if x.0 == number then (response_to s x.1).1 ∷ [] else []) ++ replies_from number (response_to s x.1).0 calls

abbrev pub replies_to : ℕ → ShareStart → List Made → List Reply
replies_to number origin calls = replies_from number (register_before origin) calls

-- the numbers in its replies to publications after `front`, each once
abbrev pub fronts_after : ℕ → List Reply → List ℕ
fronts_after front [] = []
fronts_after front (answered (answer.Published next) ∷ replies) =
    if next == front then fronts_after front replies else next ∷ fronts_after next replies
fronts_after front (reply ∷ replies) = fronts_after front replies

-- the cuts: the length of the first journal, and those numbers
abbrev pub cuts_replied : ShareStart → List Made → List ℕ
cuts_replied origin calls =
    let first = length origin.register.journal in first ∷ fronts_after first (replies_to 0 origin calls)

-- a reader that has loaded side, and not yet all words, is to read one sheet more; no other is
abbrev pub IsAwaited : Stage → List (List ℕ) → Type 0
IsAwaited (Reading side words) due = (sheet : List ℕ) × (due ≡ sheet ∷ [])
IsAwaited stage due = due ≡ []

-- what a reader has read, and is to read, are the replies to its calls
pub record ReadsFrom (origin : ShareStart) (calls : List Made) (p : ReaderState) : Type 0 where
  pub opening : p.opening ≡ origin.register.opening
  pub due : List (List ℕ)
  pub is_due : IsAwaited p.stage due
  pub replies : replies_to (number_of p) origin calls ≡ map reading (p.readings ++ due)

-- the register's commands are the first that the writer has accepted, and both have published the same
-- ones; the writer's cuts are the replies to its publications
pub record WritesTo (origin : ShareStart) (calls : List Made) (b : WriterState) : Type 0 where
  pub opening : b.ledger.opening ≡ origin.register.opening
  pub accepted : IsPrefix (register_after origin calls).ledger.journal b.ledger.journal
  pub published : b.published ≡ published_in origin calls
  pub cuts : b.cuts ≡ cuts_replied origin calls

-- a run over these calls tells what the writer and the readers of a state know; and of any readers,
-- each sheet read is that of a cut, and none is older than one that its reader read before
pub record CallsTell (origin : ShareStart) (calls : List Made) (s : table.State Unit View) : Type 0 where
  pub writer : (b : WriterState) → SeatsWriter s b → WritesTo origin calls b
  pub readers : (p : ReaderState) → SeatsReader s p → ReadsFrom origin calls p
  pub records : (ps : List ReaderState) → All (SeatsReader s) ps
      → AreLegalRecords origin.register.opening (published_in origin calls) (cuts_replied origin calls)
      (map (λ p. p.readings) ps)

-- The calls of a history: those that its events represent, in the order of the steps.
abbrev pub maker : Event → ℕ
maker (Reader number) = number
maker event = 0

abbrev pub calls_from : MachineState → List Event → List Made
calls_from m [] = []
calls_from m (event ∷ events) =
    map (λ call. (maker event, call)) (effect m event) ++ calls_from (transition m event).0 events

abbrev pub calls_in : History → List Made
calls_in h = calls_from (machine_at_start h.origin.register h.origin.readers) h.events

-- the writer's answers in these outputs, as replies
abbrev pub answers_in : List Note → List Reply
answers_in [] = []
answers_in (Accepted count ∷ notes) = answered (answer.Accepted count) ∷ answers_in notes
answers_in (Refused why ∷ notes) = answered (answer.Refused why) ∷ answers_in notes
answers_in (Published front ∷ notes) = answered (answer.Published front) ∷ answers_in notes
answers_in (note ∷ notes) = answers_in notes

-- a history tells what all seats of a state know
pub record Tells (h : History) (s : table.State Unit View) : Type 0 where
  -- one order: each seat knows the history up to a point, and has taken no step after it
  pub order : (id : ℕ) (v : View) → get_elem? s.views id ≡ some v → KnowsPrefix v h
  -- the calls of each reader, and of the writer, are among those of the history that it knows
  pub reads : (p : ReaderState) → SeatsReader s p
      → replies_to (number_of p) h.origin (calls_in p.history) ≡ replies_to (number_of p) h.origin (calls_in h)
  pub orders : (b : WriterState) → SeatsWriter s b
      → replies_to 0 h.origin (calls_in b.history) ≡ replies_to 0 h.origin (calls_in h)
  -- one run of the register over its calls tells what they know
  pub calls : CallsTell h.origin (calls_in h) s
  -- the outputs are the replies: those of the writer's events, and those of each reader's, which are the
  -- sheets in its record; the last may still be to be put out
  pub answers : answers_in (reported_in h) ≡ replies_to 0 h.origin (calls_in h)
  pub sheets : (p : ReaderState) → SeatsReader s p
      → p.readings ≡ sheets_reported (number_of p) (reported_in h) ++ about_to_leave p.stage

-- a longer history has the calls of the shorter one, and then those of the events added: each call has
-- its place between the steps before and after it
abbrev pub PlacesLaw : Type 0
PlacesLaw = (h : History) (events : List Event)
    → calls_in (history_with h events) ≡ calls_in h ++ calls_from (machine_of h) events

-- the history by which the rule holds tells what is known: with the laws of steps, that of a moment
-- and that of any moment before it
abbrev pub TellsLaw : Type 0
TellsLaw = (origin : ShareStart) (h : History) (s : table.State Unit View) → IsLedger origin.register
    → HoldsBy origin h s → Tells h s

-- in every state under a rule there is one such history of the board; and so, without the machine,
-- calls that tell what is known
module _ (holds : ShareStart → table.State Unit View → Type 0) where
  abbrev pub HeadlineLaw : Type 0
  HeadlineLaw = (origin : ShareStart) (s : table.State Unit View) → IsLedger origin.register → holds origin s
      → (h : History) × (h.origin ≡ origin) × Tells h s

  abbrev pub CallsLaw : Type 0
  CallsLaw = (origin : ShareStart) (s : table.State Unit View) → IsLedger origin.register → holds origin s
      → (calls : List Made) × CallsTell origin calls s
