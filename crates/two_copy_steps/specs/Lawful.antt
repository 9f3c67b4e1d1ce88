-- The state of words and views, and its invariant.
use Rattle.std.specs.Prelude.{◌≡◌, ◌≢◌, ℕ, ◌<◌, ◌≤◌, true, false, List, [], ◌∷◌}
use Rattle.std.specs.Prelude.{◌++◌, length, take, slice_index, slice_get, slice_set, Some, Contains}
use Rattle.std.specs.List.Sorted.{IsNonDecreasing}
use Rattle.council_core.specs.declared.commands.Command.{Command}
use Rattle.council_core.specs.Rolls.{Opening, sheet, IsLegal}
use Rattle.council_core.specs.Sequential.{IsRecordFrom}
use Rattle.council_core.specs.Sheets.{front_of, IsSheet}
use Rattle.two_copy_steps.specs.declared.views.ReaderView.{ReaderView}
use Rattle.two_copy_steps.specs.declared.views.WriterView.{WriterView}
use Rattle.two_copy_steps.specs.declared.views.Writing.{Writing}
use Rattle.two_copy_steps.specs.declared.views.Stage.{Stage}
use Rattle.two_copy_steps.specs.declared.views.Stage.TheVariants.{AtRest, Arrived, Reading, Leaving}
use Rattle.two_copy_steps.specs.declared.views.Phase.{Phase}
use Rattle.two_copy_steps.specs.declared.views.Phase.TheVariants.{Idle, Seeing, Filling, Swapping}
use Rattle.two_copy_steps.specs.declared.table.TheConstants.{COPY_WORDS}
use Rattle.two_copy_steps.specs.Actions.{all_true, other_side, copy_word, pin, reader_action, writer_action, writing_of_staged}

pub record State : Type 0 where
  pub words : List ℕ
  pub writer : WriterView
  pub readers : List ReaderView

-- the state after the reader at r, whose view is given, takes its step
abbrev pub read_by : State → ℕ → ReaderView → State
read_by s r v =
    let d = reader_action r v in
    let found = slice_index s.words d.word in
    record {
      words = slice_set s.words d.word (d.becomes found);
      writer = s.writer;
      readers = slice_set s.readers r (d.after found);
    }

-- the state after the writer takes its step; the words that it stores are of sheets over this
-- opening
abbrev pub written_by : Opening → State → State
written_by opening s =
    let d = writer_action (sheet opening) s.writer in
    let found = slice_index s.words d.word in
    record { words = slice_set s.words d.word (d.becomes found); writer = d.after found; readers = s.readers }

-- the state after the writer begins to publish these commands; no word changes
abbrev pub begun_by : State → List Command → State
begun_by s commands = record s { writer = record s.writer { state = writing_of_staged commands s.writer.state } }

-- the pin at each stage: 0 for a reader at rest, otherwise 1
abbrev pub pin_of : Stage → ℕ
pin_of AtRest = 0
pin_of stage = 1

-- the last front of a record, or the given number if the record is empty
abbrev pub last_front : ℕ → List (List ℕ) → ℕ
last_front low [] = low
last_front low (words ∷ rest) = last_front (front_of words) rest

-- the first k words of the copy that a side names are those of `numbers`
abbrev pub ShowsFirst : ℕ → List ℕ → ℕ → List ℕ → Type 0
ShowsFirst k words side numbers = (i : ℕ) → i < k → slice_index words (copy_word side i) ≡ slice_index numbers i

-- all words of that copy are those of `numbers`
abbrev pub ShowsSheet : List ℕ → ℕ → List ℕ → Type 0
ShowsSheet words side numbers = ShowsFirst COPY_WORDS words side numbers

-- the loaded words are the first words of the copy that a side names
abbrev pub IsLoadedFrom : List ℕ → ℕ → List ℕ → Type 0
IsLoadedFrom words side loaded =
    (i : ℕ) → i < length loaded → slice_index loaded i ≡ slice_index words (copy_word side i)

-- the first list is a prefix of the second
abbrev pub IsPrefix : {A : Type 0} → List A → List A → Type 0
IsPrefix {A} list longer = (rest : List A) × (longer ≡ list ++ rest)

-- a legal list whose sheet is in range
abbrev pub IsPublishable : Opening → List Command → Type 0
IsPublishable opening commands = IsLegal opening commands × IsSheet (sheet opening commands)

-- an opening, and the requirement on each published list of commands
module _ (opening : Opening) (Legal : List Command → Type 0) where
  -- the reader at r has loaded this side and not left: that copy has the sheet of one cut, not
  -- below any front of its record, and if that side is not the writer's, the reader is not
  -- quiescent
  pub record HoldsCopy (words : List ℕ) (v : WriterView) (readings : List (List ℕ)) (r side : ℕ) : Type 0 where
    pub two : side < 2
    pub cut : ℕ
    pub is_cut : Contains v.cuts cut
    pub shows : ShowsSheet words side (sheet opening (take cut v.state.published))
    pub above : last_front 0 readings ≤ cut
    pub late : side ≢ v.state.side → slice_get v.state.seen_out r ≡ Some false

  abbrev pub Stands : List ℕ → WriterView → List (List ℕ) → ℕ → Stage → Type 0
  Stands words v readings r AtRest = Unit {0}
  Stands words v readings r Arrived = Unit {0}
  Stands words v readings r (Reading side loaded) = HoldsCopy words v readings r side × (length loaded < COPY_WORDS)
      × IsLoadedFrom words side loaded
  Stands words v readings r (Leaving side loaded) =
      HoldsCopy words v readings r side × (length loaded ≡ COPY_WORDS) × IsLoadedFrom words side loaded
      × ((earlier : List (List ℕ)) × (readings ≡ earlier ++ loaded ∷ []))

  pub record ReaderOk (words : List ℕ) (v : WriterView) (r : ℕ) (reader : ReaderView) : Type 0 where
    pub pinned : slice_index words (pin r) ≡ pin_of reader.stage
    pub stands : Stands words v reader.readings r reader.stage
    pub record_legal : IsRecordFrom opening v.state.published v.cuts 0 reader.readings

  -- all readers are quiescent, and the first k words of the copy that is not published are those of
  -- the sheet of the staged commands
  abbrev pub Stored : List ℕ → Writing → ℕ → Type 0
  Stored words w k =
      (all_true w.seen_out ≡ true) × ShowsFirst k words (other_side w.side) (sheet opening w.staged)

  abbrev pub Fills : List ℕ → Writing → Phase → Type 0
  Fills words w Idle = Unit {0}
  Fills words w Seeing = all_true w.seen_out ≡ false
  Fills words w (Filling k) = (k < COPY_WORDS) × Stored words w k
  Fills words w Swapping = Stored words w COPY_WORDS

  pub record WriterOk (words : List ℕ) (v : WriterView) (readers : ℕ) : Type 0 where
    pub two : v.state.side < 2
    pub side_is : slice_index words 0 ≡ v.state.side
    pub flags : length v.state.seen_out ≡ readers
    pub legal : Legal v.state.staged
    pub begins : IsPrefix v.state.published v.state.staged
    pub shown : ShowsSheet words v.state.side (sheet opening v.state.published)
    pub last_cut : (earlier : List ℕ) × (v.cuts ≡ earlier ++ length v.state.published ∷ [])
    pub cuts : (cut : ℕ) → Contains v.cuts cut
        → (cut ≤ length v.state.published) × Legal (take cut v.state.published)
    pub ascending : IsNonDecreasing v.cuts
    pub fills : Fills words v.state v.state.phase

  pub record IsLawfulState (s : State) : Type 0 where
    pub wide : pin (length s.readers) ≤ length s.words
    pub writer : WriterOk s.words s.writer (length s.readers)
    pub each_reader : (r : ℕ) (v : ReaderView) → slice_get s.readers r ≡ Some v → ReaderOk s.words s.writer r v
