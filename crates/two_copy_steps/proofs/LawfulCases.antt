-- States of words and views that are not lawful, each for one reason; and what the laws of steps say in worked examples.
use Rattle.two_copy_steps.proofs.Names.{[], about_to_leave, arith, Arrived, AtRest, Auxiliary, auxiliary_after}
use Rattle.two_copy_steps.proofs.Names.{auxiliary_start, auxiliary_step, Began, Bool, Close, Command, effects, Event}
use Rattle.two_copy_steps.proofs.Names.{false, Filling, Fills, HasVotesInRange, Idle, IsApart, IsLawfulMachine}
use Rattle.two_copy_steps.proofs.Names.{IsLeastUnseen, IsLedger, IsMachine, IsPublishable, Leaving, length, List}
use Rattle.two_copy_steps.proofs.Names.{machine_after, machine_at_start, MachineState, map, notes, Open, Phase, pin}
use Rattle.two_copy_steps.proofs.Names.{Publish, read_by, Reader, reader_action, ReaderView, Reading, record_at, refl}
use Rattle.two_copy_steps.proofs.Names.{replicate, replies_of, Seeing, sequential_start, SetVotes, sheet, sheet_read}
use Rattle.two_copy_steps.proofs.Names.{sheets_reported, ShowsSheet, slice_get, Some, Stage, State, state_after}
use Rattle.two_copy_steps.proofs.Names.{state_after_events, state_of, steps_taken, Submit, subst, suc, Swapping, sym}
use Rattle.two_copy_steps.proofs.Names.{take, transition, true, true≢false, Writer, Writing, ℕ, ◌++◌, ◌^◌, ◌∷◌, ◌≡◌}
use Rattle.two_copy_steps.proofs.Names.{◌≤◌}
use Rattle.std.proofs.Common.{slice_index}
use Rattle.two_copy_steps.specs.Effects.{AnswersEvent, sequential_replies, sequential_steps}
use Rattle.two_copy_steps.specs.Laws.{AfterLaw, BeginLaw, BeginTransitionLaw, BusyLaw, EffectsLaw, EventLaw, GrowthLaw, IdleTransitionLaw, LedgerLaw, NotesLaw, OutputsLaw, RangeLaw, ReaderLaw, ReaderTransitionLaw, StartLaw, StateKnownLaw, StateUnderLaw, StepCountLaw, SubmitTransitionLaw, WriterLaw, WriterTransitionLaw}
use Rattle.two_copy_steps.specs.Lawful.{Stored, begun_by, written_by}
use Rattle.two_copy_steps.specs.Runs.{WantsMemoryFrom}
use Rattle.two_copy_steps.specs.Machines.{WantsMemory}
use Rattle.two_copy_steps.specs.States.{IsKnown, IsLawfulBoard}
use Rattle.two_copy_steps.proofs.LawCases.{held_up, ledger}
use Rattle.two_copy_steps.proofs.WorkedCases.{blocking, code, first_sheet, hands_three_votes, one_member, votes_in_range}

-- the words at the start, and with another pin
abbrev words_with_pin : ℕ → List ℕ
words_with_pin pinned = 0 ∷ first_sheet ++ first_sheet ++ pinned ∷ []

-- a writer of this side that has published and staged these commands, and one reader, which is quiescent or not
abbrev written : List ℕ → ℕ → List Command → List Command → Phase → Bool → List ℕ → Stage → List (List ℕ) → State
written words side published staged phase seen cuts stage readings =
    record {
      words = words;
      writer = record { state = record { side = side; published = published; staged = staged; phase = phase; seen_out = seen ∷ [] }; cuts = cuts };
      readers = record { stage = stage; readings = readings } ∷ [];
    }

-- one command, the sheet after it, and words of which copy 0 shows that sheet
abbrev one : List Command
one = Open 1 ∷ []

abbrev sheet_of_one : List ℕ
sheet_of_one = 1 ∷ replicate 31 0 ++ 10 ∷ 1 ∷ []

abbrev words_of_one : List ℕ
words_of_one = 0 ∷ sheet_of_one ++ first_sheet ++ 0 ∷ []

-- a state at rest, but for its words, phase, cuts or reader
abbrev at_rest : List ℕ → Phase → List ℕ → Stage → List (List ℕ) → State
at_rest words phase cuts stage readings = written words 0 [] [] phase true cuts stage readings

abbrev IsLawfulState : State → Type 0
IsLawfulState s = IsLawfulBoard one_member.opening s

-- the words reach to the pin, and the first is the writer's side, 0 or 1
words_missing : IsLawfulState (at_rest (0 ∷ first_sheet ++ first_sheet) Idle (0 ∷ []) AtRest []) → ⊥
words_missing h = omega (arith, h.wide)

third_side : IsLawfulState (written (2 ∷ first_sheet ++ first_sheet ++ first_sheet) 2 [] [] Idle true (0 ∷ []) AtRest []) → ⊥
third_side h = omega (arith, h.writer.two)

another_side : IsLawfulState (written (words_with_pin 0) 1 [] [] Idle true (0 ∷ []) AtRest []) → ⊥
another_side h = omega (arith, h.writer.side_is)

-- there is a flag for each reader
flag_missing : IsLawfulState (record (at_rest (words_with_pin 0) Idle (0 ∷ []) AtRest []) { readers = [] }) → ⊥
flag_missing h = omega (arith, h.writer.flags)

-- what is staged is legal and begins with what is published, and the words show what is published
illegal_staged : IsLawfulState (written (words_with_pin 0) 0 [] (Close 1 ∷ []) Idle true (0 ∷ []) AtRest []) → ⊥
illegal_staged h = true≢false (sym h.writer.legal.0.0)

published_not_staged : IsLawfulState (written words_of_one 0 one [] Idle true (1 ∷ []) AtRest []) → ⊥
published_not_staged h = let e = h.writer.begins.1 in cc e

not_shown : IsLawfulState (at_rest (replicate 70 0) Idle (0 ∷ []) AtRest []) → ⊥
not_shown h = omega (arith, h.writer.shown 32 (omega arith))

abbrev another_front : List ℕ
another_front = replicate 32 0 ++ 10 ∷ 7 ∷ []

last_word_not_shown : IsLawfulState (at_rest (0 ∷ another_front ++ first_sheet ++ 0 ∷ []) Idle (0 ∷ []) AtRest []) → ⊥
last_word_not_shown h = omega (arith, h.writer.shown 33 (omega arith))

-- the last cut is the number of published commands, and none is above it, which follows, or below the one before it
no_cut_at_all : IsLawfulState (at_rest (words_with_pin 0) Idle [] AtRest []) → ⊥
no_cut_at_all h = none h.writer.last_cut.0 h.writer.last_cut.1
  where
    none : (earlier : List ℕ) → [] ≡ earlier ++ 0 ∷ [] → ⊥
    none [] e = cc e
    none (cut ∷ cuts) e = cc e

cut_too_high : IsLawfulState (at_rest (words_with_pin 0) Idle (5 ∷ 0 ∷ []) AtRest []) → ⊥
cut_too_high h = omega (arith, (h.writer.cuts 5 (0, omega arith, refl)).0)

falling_cuts : IsLawfulState (written words_of_one 0 one one Idle true (1 ∷ 0 ∷ 1 ∷ []) AtRest []) → ⊥
falling_cuts h = omega (arith, h.writer.ascending 0 1 0 (omega arith) (omega arith))

-- 34 words are stored from the first on, once all readers are quiescent
word_35_stored : IsLawfulState (at_rest (words_with_pin 0) (Filling 34) (0 ∷ []) AtRest []) → ⊥
word_35_stored h = omega (arith, h.writer.fills.0)

sees_nobody : IsLawfulState (at_rest (words_with_pin 0) Seeing (0 ∷ []) AtRest []) → ⊥
sees_nobody h = true≢false h.writer.fills

fills_under_one : IsLawfulState (written (words_with_pin 0) 0 [] [] (Filling 0) false (0 ∷ []) AtRest []) → ⊥
fills_under_one h = true≢false (sym h.writer.fills.1.0)

not_all_filled : IsLawfulState (at_rest (0 ∷ first_sheet ++ replicate 35 0) Swapping (0 ∷ []) AtRest []) → ⊥
not_all_filled h = omega (arith, h.writer.fills.1 32 (omega arith))

last_word_not_filled : IsLawfulState (at_rest (0 ∷ first_sheet ++ another_front ++ 0 ∷ []) Swapping (0 ∷ []) AtRest []) → ⊥
last_word_not_filled h = omega (arith, h.writer.fills.1 33 (omega arith))

-- word 34 is the last to be stored
last_word_next : (words : List ℕ) (w : Writing) → Stored one_member.opening (IsPublishable one_member.opening) words w 33 → Fills one_member.opening (IsPublishable one_member.opening) words w (Filling 33)
last_word_next words w stored = (omega arith, stored)

-- a reader's pin is that of its stage, and it has read sheets of cuts
pin_left : IsLawfulState (at_rest (words_with_pin 1) Idle (0 ∷ []) AtRest []) → ⊥
pin_left h = omega (arith, (h.each_reader 0 _ refl).pinned)

read_nothing : IsLawfulState (at_rest (words_with_pin 0) Idle (0 ∷ []) AtRest ([] ∷ [])) → ⊥
read_nothing h = let e = (h.each_reader 0 _ refl).record_legal.0.2 in cc e

-- it loads words of one copy, 0 or 1, and a reading that is whole is the last of its record
loads_too_many : IsLawfulState (at_rest (words_with_pin 1) Idle (0 ∷ []) (Reading 0 first_sheet) []) → ⊥
loads_too_many h = omega (arith, (h.each_reader 0 _ refl).stands.1)

loads_another_word : IsLawfulState (at_rest (words_with_pin 1) Idle (0 ∷ []) (Reading 0 (7 ∷ [])) []) → ⊥
loads_another_word h = omega (arith, (h.each_reader 0 _ refl).stands.2 0 (omega arith))

leaves_unread : IsLawfulState (at_rest (words_with_pin 1) Idle (0 ∷ []) (Leaving 0 first_sheet) []) → ⊥
leaves_unread h = let last = (h.each_reader 0 _ refl).stands.3 in none last.0 last.1
  where
    none : (earlier : List (List ℕ)) → [] ≡ earlier ++ first_sheet ∷ [] → ⊥
    none [] e = cc e
    none (sheet ∷ sheets) e = cc e

holds_no_copy : IsLawfulState (written (0 ∷ sheet_of_one ++ sheet_of_one ++ sheet_of_one) 0 one one Idle false (1 ∷ []) (Reading 2 []) []) → ⊥
holds_no_copy h = omega (arith, (h.each_reader 0 _ refl).stands.0.two)

-- a quiescent reader does not hold the copy that is not published, and no copy is older than what it has read
holds_the_other : IsLawfulState (at_rest (words_with_pin 1) Idle (0 ∷ []) (Reading 1 []) []) → ⊥
holds_the_other h = let e = (h.each_reader 0 _ refl).stands.0.late (λ same. omega (arith, same)) in cc e

abbrev words_before_one : List ℕ
words_before_one = 1 ∷ first_sheet ++ sheet_of_one ++ 1 ∷ []

reads_backwards : IsLawfulState (written words_before_one 1 one one Idle false (0 ∷ 1 ∷ []) (Reading 0 []) (sheet_of_one ∷ [])) → ⊥
reads_backwards h =
    let held = (h.each_reader 0 _ refl).stands.0 in
    above held.cut (h.writer.cuts held.cut held.is_cut).0 held.above held.shows
  where
    above : (cut : ℕ) → cut ≤ 1 → 1 ≤ cut → ShowsSheet words_before_one 0 (sheet one_member.opening (take cut one)) → ⊥
    above cut low high shown =
        let last : cut ≡ 1 = omega (arith, low, high) in
        let S : ℕ → Type 0 = λ n. ShowsSheet words_before_one 0 (sheet one_member.opening (take n one)) in
        omega (arith, subst S last shown 0 (omega arith))

-- the copy that it holds shows the sheet of a cut
abbrev another_copy : List ℕ
another_copy = 1 ∷ replicate 34 0 ++ first_sheet ++ 1 ∷ []

holds_another_sheet : IsLawfulState (written another_copy 1 [] [] Idle false (0 ∷ []) (Reading 0 []) []) → ⊥
holds_another_sheet h = shows ((h.each_reader 0 _ refl).stands.0.cut) (h.writer.cuts ((h.each_reader 0 _ refl).stands.0.cut) ((h.each_reader 0 _ refl).stands.0.is_cut)).0 (h.each_reader 0 _ refl).stands.0.shows
  where
    shows : (cut : ℕ) → cut ≤ 0 → ShowsSheet another_copy 0 (sheet one_member.opening (take cut [])) → ⊥
    shows cut low shown =
        let zero : cut ≡ 0 = omega (arith, low) in
        let S : ℕ → Type 0 = λ n. ShowsSheet another_copy 0 (sheet one_member.opening (take n [])) in
        omega (arith, subst S zero shown 32 (omega arith))

-- a machine's journal extends what is staged, and equals it in a publication; its words and views are lawful, with a record for each reader
abbrev machine_with : List Command → List Command → Phase → MachineState
machine_with journal staged phase =
    record (machine_at_start one_member 1) {
      ledger = record one_member { journal = journal };
      writer = record (machine_at_start one_member 1).writer { staged = staged; phase = phase };
    }

staged_beyond : (a : Auxiliary) → IsLawfulMachine IsPublishable (machine_with [] (Open 1 ∷ []) Idle) a → ⊥
staged_beyond a h = let e = h.extends.1 in cc e

accepted_in_a_publication : (a : Auxiliary) → IsLawfulMachine IsPublishable (machine_with (Open 1 ∷ []) [] (Filling 0)) a → ⊥
accepted_in_a_publication a h = let e = h.whole refl in cc e

record_missing : IsLawfulMachine IsPublishable (machine_at_start one_member 1) (record { cuts = 0 ∷ []; records = [] }) → ⊥
record_missing h = omega (arith, h.each_record)

machine_without_words : (a : Auxiliary) → IsLawfulMachine IsPublishable (record (machine_at_start one_member 0) { words = [] }) a → ⊥
machine_without_words a h = omega (arith, h.state.wide)

machine_kept_without_words : IsMachine one_member [] 0 0 first_sheet Idle [] [] → ⊥
machine_kept_without_words h = omega (arith, h.lawful.1.state.wide)

-- commands that set too many votes are out of range
votes_out_of_range : HasVotesInRange (record one_member { journal = SetVotes code (2 ^ 41) ∷ [] }) → ⊥
votes_out_of_range h = omega (arith, h.1 0 (Open 1) (omega arith))

-- a reader that is quiescent is not the least that is not
quiescent_not_least : IsLeastUnseen (true ∷ []) 0 → ⊥
quiescent_not_least h = let e = h.0 in cc e

-- a publication wants no memory
publication_wants_none : WantsMemoryFrom (machine_at_start one_member 1) (Publish ∷ []) 0 → ⊥
publication_wants_none (event, is, wants) =
    let same : Publish ≡ event = cc is in
    subst (WantsMemory (machine_at_start one_member 1)) (sym same) wants

-- side is stored only in a publication that has begun
stored_unbegun : AnswersEvent (sequential_start one_member) (machine_with [] [] Swapping) Writer → ⊥
stored_unbegun h = true≢false (sym h.1)

-- what a law of steps says of the reader that holds up a publication: its pin is 1, and who is quiescent stays
busy_pin : BusyLaw → (a : Auxiliary) → IsLawfulMachine IsPublishable held_up a → (transition held_up Writer).0.writer.seen_out ≡ held_up.writer.seen_out
busy_pin law a lawful = (law held_up a lawful Writer 1 refl).4

busy_reader_pinned : BusyLaw → (a : Auxiliary) → IsLawfulMachine IsPublishable held_up a → (r : ℕ) × (slice_index held_up.words (pin r) ≡ 1)
busy_reader_pinned law a lawful = let found = law held_up a lawful Writer 1 refl in (found.0, found.3)

busy_reader : BusyLaw → (a : Auxiliary) → IsLawfulMachine IsPublishable held_up a → (r : ℕ) × (1 ≡ suc r) × IsLeastUnseen held_up.writer.seen_out r
busy_reader law a lawful = let found = law held_up a lawful Writer 1 refl in (found.0, found.1, found.2)

-- a reading has at most 36 steps before its last, and its last load adds the words that its last step returns
steps_bounded : StepCountLaw → steps_taken Arrived ≤ 36
steps_bounded law = (law 0 1 Arrived tt).0

last_load_grows : GrowthLaw → let after = (reader_action 0 (record { stage = Reading 0 (replicate 33 0); readings = first_sheet ∷ [] })).after 7 in (words : List ℕ) × (sheet_read after.stage ≡ Some words) × (after.readings ≡ first_sheet ∷ words ∷ [])
last_load_grows law = (law 0 7 (record { stage = Reading 0 (replicate 33 0); readings = first_sheet ∷ [] }) (omega arith)).1 refl

-- votes stay in range
votes_stay : RangeLaw → HasVotesInRange (transition (machine_at_start one_member 1) (Submit (SetVotes code 3))).0.ledger
votes_stay law = (law (machine_at_start one_member 1) ledger votes_in_range (Submit (SetVotes code 3)) hands_three_votes).0

-- event by event or call by call, the register replies the same, and ends the same
replies_the_same : EffectsLaw → let t = sequential_start one_member in let m = machine_at_start one_member 1 in replies_of t.register (effects m blocking) ≡ sequential_replies t m blocking
replies_the_same law = (law (sequential_start one_member) (machine_at_start one_member 1) blocking).0

ends_the_same : EffectsLaw → let t = sequential_start one_member in let m = machine_at_start one_member 1 in state_after t.register (effects m blocking) ≡ (sequential_steps t m blocking).register
ends_the_same law = (law (sequential_start one_member) (machine_at_start one_member 1) blocking).1

-- a reader whose view is known has a legal record, a stage that it can be at, and the words that it leaves at its end
reader_knows_no_sheet : IsKnown one_member.opening (record { stage = AtRest; readings = [] ∷ [] }) → ⊥
reader_knows_no_sheet h = let e = h.records.readings.0.0.2 in cc e

reader_loads_too_many : IsKnown one_member.opening (record { stage = Reading 0 (replicate 34 0); readings = [] }) → ⊥
reader_loads_too_many h = omega (arith, h.readable)

reader_leaves_unread : IsKnown one_member.opening (record { stage = Leaving 0 first_sheet; readings = [] }) → ⊥
reader_leaves_unread h = none h.ends.0 h.ends.1
  where
    none : (earlier : List (List ℕ)) → [] ≡ earlier ++ first_sheet ∷ [] → ⊥
    none [] e = cc e
    none (sheet ∷ sheets) e = cc e

-- the laws of states, steps and events, at the start over a register of one member
abbrev started : MachineState
started = machine_at_start one_member 1

abbrev auxiliary_started : Auxiliary
auxiliary_started = auxiliary_start one_member 1

abbrev state_started : State
state_started = state_of started auxiliary_started

abbrev resting : ReaderView
resting = record { stage = AtRest; readings = [] }

start_used : StartLaw → IsPublishable one_member.opening [] → IsLawfulMachine IsPublishable started auxiliary_started
start_used law publishable = law one_member 1 publishable

reader_used : ReaderLaw → IsLawfulState state_started → IsLawfulState (read_by state_started 0 resting)
reader_used law lawful = law one_member.opening state_started lawful 0 resting refl

writer_used : WriterLaw → IsLawfulState state_started → IsLawfulState (written_by one_member.opening state_started)
writer_used law lawful = law one_member.opening state_started lawful

begin_used : BeginLaw → IsLawfulState state_started → IsPublishable one_member.opening (Open 1 ∷ []) → IsLawfulState (begun_by state_started (Open 1 ∷ []))
begin_used law lawful publishable = law one_member.opening state_started lawful (Open 1 ∷ []) (Open 1 ∷ []) publishable refl

under_used : StateUnderLaw → (s : State) → IsLawfulState s → IsApart s.writer.state (map (λ v. v.stage) s.readers)
under_used law s lawful = law one_member.opening s lawful

known_used : StateKnownLaw → IsLawfulState state_started → IsKnown one_member.opening resting
known_used law lawful = law one_member.opening state_started lawful 0 resting refl

writer_transition_used : WriterTransitionLaw → (a : Auxiliary) → state_of (transition started Writer).0 (auxiliary_step started a Writer) ≡ written_by one_member.opening (state_of started a)
writer_transition_used law a = law started a

reader_transition_used : ReaderTransitionLaw → (a : Auxiliary) → length a.records ≡ 1
    → state_of (transition started (Reader 1)).0 (auxiliary_step started a (Reader 1)) ≡ read_by (state_of started a) 0 (record { stage = AtRest; readings = record_at a.records 0 })
reader_transition_used law a one = law started a one 0 AtRest refl

begin_transition_used : BeginTransitionLaw → (m : MachineState) (a : Auxiliary) → (transition m Publish).1 ≡ Began
    → state_of (transition m Publish).0 (auxiliary_step m a Publish) ≡ begun_by (state_of m a) m.ledger.journal
begin_transition_used law m a began = law m a began

idle_transition_used : IdleTransitionLaw → (a : Auxiliary) → state_of (transition started Publish).0 (auxiliary_step started a Publish) ≡ state_of started a
idle_transition_used law a = law started a (λ e. cc e)

submit_transition_used : SubmitTransitionLaw → (a : Auxiliary) → state_of (transition started (Submit (Open 1))).0 (auxiliary_step started a (Submit (Open 1))) ≡ state_of started a
submit_transition_used law a = law started a (Open 1)

event_used : EventLaw → IsLawfulMachine IsPublishable started auxiliary_started → IsPublishable one_member.opening []
    → IsLawfulMachine IsPublishable (transition started (Reader 1)).0 (auxiliary_step started auxiliary_started (Reader 1))
event_used law lawful publishable = law started auxiliary_started lawful publishable (Reader 1)

ledger_used : LedgerLaw → IsLedger (transition started (Submit (Open 1))).0.ledger
ledger_used law = law started ledger (Submit (Open 1))

outputs_used : OutputsLaw → (stage : Stage) → slice_get (machine_after one_member 1 blocking).readers 0 ≡ Some stage
    → record_at (auxiliary_after one_member 1 blocking).records 0 ≡ sheets_reported 1 (notes started blocking) ++ about_to_leave stage
outputs_used law = law one_member 1 blocking 0

notes_used : NotesLaw → (more : List Event) → notes started (blocking ++ more) ≡ notes started blocking ++ notes (state_after_events started blocking) more
notes_used law more = law started blocking more

after_used : AfterLaw → (more : List Event) → state_after_events started (blocking ++ more) ≡ state_after_events (state_after_events started blocking) more
after_used law more = law started blocking more
