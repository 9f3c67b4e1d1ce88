-- The steps of a reader and of the writer as two tables, `stage_action` and `phase_action`: the one
-- word that a step loads or stores, and the actor's view after it. The machine is this project's
-- own: two copies, and one pin for each reader.
use Rattle.std.specs.Prelude.{ℕ, zero, suc, ◌+◌, ◌-◌, Bool, true, false, List, [], ◌∷◌, ◌++◌}
use Rattle.std.specs.Prelude.{length, slice_index, slice_set, replicate, if◌then◌else◌, ◌&&◌, ◌==◌}
use Rattle.council_core.specs.declared.commands.Command.{Command}
use Rattle.two_copy_steps.specs.declared.views.ReaderView.{ReaderView}
use Rattle.two_copy_steps.specs.declared.views.WriterView.{WriterView}
use Rattle.two_copy_steps.specs.declared.views.Writing.{Writing}
use Rattle.two_copy_steps.specs.declared.views.Stage.{Stage}
use Rattle.two_copy_steps.specs.declared.views.Stage.TheVariants.{AtRest, Arrived, Reading, Leaving}
use Rattle.two_copy_steps.specs.declared.views.Phase.{Phase}
use Rattle.two_copy_steps.specs.declared.views.Phase.TheVariants.{Idle, Seeing, Filling, Swapping}
use Rattle.two_copy_steps.specs.declared.table.TheConstants.{SIDE, COPY_WORDS}

-- the word that is accessed, its number after the step, and the actor's view after the step; the
-- last two depend on the number found in the word
pub record Action (V : Type 0) : Type 0 where
  pub word : ℕ
  pub becomes : ℕ → ℕ
  pub after : ℕ → V

-- a load of a word: what follows depends on the number found
abbrev pub loads : {V : Type 0} → ℕ → (ℕ → V) → Action V
loads word after = record { word = word; becomes = λ found. found; after = after }

-- a store of a number in a word
abbrev pub stores : {V : Type 0} → ℕ → ℕ → V → Action V
stores word number after = record { word = word; becomes = λ _. number; after = λ _. after }

-- the index of word i of the copy that a side names: word 0 is side, the two copies follow, and
-- then a pin for each reader
abbrev pub copy_word : ℕ → ℕ → ℕ
copy_word zero i = 1 + i
copy_word (suc _) i = 1 + COPY_WORDS + i

-- the index of the pin of the reader at r, counted from 0
abbrev pub pin : ℕ → ℕ
pin r = 1 + COPY_WORDS + COPY_WORDS + r

-- a reader that has loaded these words of a copy: it leaves once it has all
abbrev pub stage_with_words : ℕ → List ℕ → Stage
stage_with_words side words = if length words == COPY_WORDS then Leaving side words else Reading side words

-- the table of the reader at r, by its stage: it arrives, loads side, loads a word, leaves
abbrev pub stage_action : ℕ → Stage → Action Stage
stage_action r AtRest = stores (pin r) 1 Arrived
stage_action r Arrived = loads SIDE (λ side. Reading side [])
stage_action r (Reading side words) =
    loads (copy_word side (length words)) (λ word. stage_with_words side (words ++ word ∷ []))
stage_action r (Leaving side words) = stores (pin r) 0 AtRest

abbrev pub all_true : List Bool → Bool
all_true [] = true
all_true (b ∷ bs) = b && all_true bs

-- the index of the first false
abbrev pub first_false : List Bool → ℕ
first_false [] = 0
first_false (b ∷ bs) = if b then suc (first_false bs) else 0

-- the other side
abbrev pub other_side : ℕ → ℕ
other_side side = 1 - side

-- the phase once these readers are quiescent, and the phase when word k is the next to be stored
abbrev pub seeing_phase : List Bool → Phase
seeing_phase out = if all_true out then Filling 0 else Seeing

abbrev pub filling_phase : ℕ → Phase
filling_phase k = if k == COPY_WORDS then Swapping else Filling k

-- the writer's state once these readers are quiescent
abbrev pub writing_with_quiescent : Writing → List Bool → Writing
writing_with_quiescent w out = record w { phase = seeing_phase out; seen_out = out }

-- the writer's state when a publication of these commands begins
abbrev pub writing_of_staged : List Command → Writing → Writing
writing_of_staged commands w = writing_with_quiescent (record w { staged = commands }) w.seen_out

-- the writer's state after the pin of the reader at r was found at 0, and at another number
abbrev pub seen_writing : Writing → ℕ → Writing
seen_writing w r = writing_with_quiescent w (slice_set w.seen_out r true)

abbrev pub abandoned_writing : Writing → Writing
abandoned_writing w = record w { phase = Idle }

-- the writer's state after word k is stored
abbrev pub filled_writing : Writing → ℕ → Writing
filled_writing w k = record w { phase = filling_phase (k + 1) }

-- the writer's state after side is stored: the staged commands are published, and no reader is
-- quiescent
abbrev pub swapped_writing : Writing → Writing
swapped_writing w = record {
  side = other_side w.side;
  published = w.staged;
  staged = w.staged;
  phase = Idle;
  seen_out = replicate (length w.seen_out) false;
}

-- once all words are loaded, they are added to the record
abbrev pub readings_with : Stage → List (List ℕ) → List (List ℕ)
readings_with (Leaving side words) readings = readings ++ words ∷ []
readings_with stage readings = readings

-- the record after a step from one stage to another: a reading is added at the load of its last
-- word
abbrev pub readings_after : Stage → Stage → List (List ℕ) → List (List ℕ)
readings_after (Reading side words) after readings = readings_with after readings
readings_after before after readings = readings

-- the step of the reader at r, with its record
abbrev pub reader_action : ℕ → ReaderView → Action ReaderView
reader_action r v =
    let d = stage_action r v.stage in
    record {
      word = d.word;
      becomes = d.becomes;
      after = λ found. record { stage = d.after found; readings = readings_after v.stage (d.after found) v.readings };
    }

-- the cuts after a step from a phase: a cut is added when side is stored
abbrev pub cuts_past : Phase → List Command → List ℕ → List ℕ
cuts_past Swapping staged cuts = cuts ++ length staged ∷ []
cuts_past phase staged cuts = cuts

module _ (sheet : List Command → List ℕ) where
  -- the table of the writer, by its phase: it changes nothing, loads a pin, stores a word, stores
  -- side
  abbrev pub phase_action : Writing → Phase → Action Writing
  phase_action w Idle = loads SIDE (λ _. w)
  phase_action w Seeing =
      let r = first_false w.seen_out in
      loads (pin r) (λ found. if found == 0 then seen_writing w r else abandoned_writing w)
  phase_action w (Filling k) =
      stores (copy_word (other_side w.side) k) (slice_index (sheet w.staged) k) (filled_writing w k)
  phase_action w Swapping = stores SIDE (other_side w.side) (swapped_writing w)

  abbrev pub writing_action : Writing → Action Writing
  writing_action w = phase_action w w.phase

  -- the step of the writer, with its cuts
  abbrev pub writer_action : WriterView → Action WriterView
  writer_action v =
      let d = writing_action v.state in
      record {
        word = d.word;
        becomes = d.becomes;
        after = λ found. record { state = d.after found; cuts = cuts_past v.state.phase v.state.staged v.cuts };
      }
