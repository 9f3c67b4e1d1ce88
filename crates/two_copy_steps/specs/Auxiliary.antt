-- Auxiliary variables of the machine: the cuts of the writer and the records of the readers. The
-- machine does not store them, and no step reads them.
use Rattle.std.specs.Prelude.{◌≡◌, ℕ, suc, false, List, [], ◌∷◌, length, replicate}
use Rattle.std.specs.Prelude.{slice_index, slice_index_or, slice_get, slice_set, Option, None, Some}
use Rattle.council_core.specs.declared.commands.Command.{Command}
use Rattle.council_core.specs.Rolls.{Opening}
use Rattle.council_core.specs.Ledgers.{Ledger}
use Rattle.two_copy_steps.specs.declared.events.Event.{Event}
use Rattle.two_copy_steps.specs.declared.events.Event.TheVariants.{Writer, Reader}
use Rattle.two_copy_steps.specs.declared.views.ReaderView.{ReaderView}
use Rattle.two_copy_steps.specs.declared.views.Writing.{Writing}
use Rattle.two_copy_steps.specs.declared.views.Stage.{Stage}
use Rattle.two_copy_steps.specs.declared.views.Phase.{Phase}
use Rattle.two_copy_steps.specs.declared.views.Phase.TheVariants.{Filling}
use Rattle.two_copy_steps.specs.declared.views.Stage.TheVariants.{AtRest, Arrived, Reading, Leaving}
use Rattle.two_copy_steps.specs.Actions.{readings_after, cuts_past, stage_action, other_side}
use Rattle.two_copy_steps.specs.Lawful.{State, IsLawfulState, IsPrefix}
use Rattle.two_copy_steps.specs.Transitions.{MachineState, transition, is_idle}

pub record Auxiliary : Type 0 where
  pub cuts : List ℕ
  pub records : List (List (List ℕ))

-- the only cut is the length of the journal, and no reader has read
abbrev pub auxiliary_start : Ledger → ℕ → Auxiliary
auxiliary_start ledger readers = record { cuts = length ledger.journal ∷ []; records = replicate readers [] }

-- the record of the reader at r
abbrev pub record_at : List (List (List ℕ)) → ℕ → List (List ℕ)
record_at records r = slice_index_or records r []

abbrev pub auxiliary_reader_step : MachineState → Auxiliary → ℕ → Option Stage → Auxiliary
auxiliary_reader_step m a r None = a
auxiliary_reader_step m a r (Some stage) =
    let d = stage_action r stage in
    record a {
      records = slice_set a.records r
          (readings_after stage (d.after (slice_index m.words d.word)) (record_at a.records r));
    }

-- the cuts and the records after an event; `m` is the machine before the event
abbrev pub auxiliary_step : MachineState → Auxiliary → Event → Auxiliary
auxiliary_step m a Writer = record a { cuts = cuts_past m.writer.phase m.writer.staged a.cuts }
auxiliary_step m a (Reader (suc r)) = auxiliary_reader_step m a r (slice_get m.readers r)
auxiliary_step m a event = a

-- the cuts and the records after a list of events
abbrev pub auxiliary_steps : MachineState → Auxiliary → List Event → Auxiliary
auxiliary_steps m a [] = a
auxiliary_steps m a (event ∷ events) = auxiliary_steps (transition m event).0 (auxiliary_step m a event) events

-- each stage with its record
abbrev pub reader_views : List Stage → List (List (List ℕ)) → List ReaderView
reader_views [] records = []
reader_views (stage ∷ stages) [] = record { stage = stage; readings = [] } ∷ reader_views stages []
reader_views (stage ∷ stages) (readings ∷ records) =
    record { stage = stage; readings = readings } ∷ reader_views stages records

-- the words and all views
abbrev pub state_of : MachineState → Auxiliary → State
state_of m a = record
    { words = m.words; writer = record { state = m.writer; cuts = a.cuts }; readers = reader_views m.readers a.records }

-- the invariant of the machine: words and views meet their invariant, and the journal extends the
-- list last staged, and equals it while a publication is in progress
pub record IsLawfulMachine (Legal : Opening → List Command → Type 0) (m : MachineState) (a : Auxiliary) : Type 0 where
  pub state : IsLawfulState m.ledger.opening (Legal m.ledger.opening) (state_of m a)
  pub extends : IsPrefix m.writer.staged m.ledger.journal
  pub whole : is_idle m.writer.phase ≡ false → m.writer.staged ≡ m.ledger.journal
  pub each_record : length a.records ≡ length m.readers

-- the side that a reader has loaded and not yet left, or None
abbrev pub side_held : Stage → Option ℕ
side_held AtRest = None
side_held Arrived = None
side_held (Reading side words) = Some side
side_held (Leaving side words) = Some side

-- the side of the copy into which the writer's next step stores a word, or None
abbrev pub side_filled : ℕ → Phase → Option ℕ
side_filled side (Filling k) = Some (other_side side)
side_filled side phase = None

-- no reader holds the copy into which the writer's next step stores a word
abbrev pub IsApart : Writing → List Stage → Type 0
IsApart w stages =
    (side r : ℕ) (stage : Stage) → side_filled w.side w.phase ≡ Some side → slice_get stages r ≡ Some stage
    → side_held stage ≡ Some side → ⊥
