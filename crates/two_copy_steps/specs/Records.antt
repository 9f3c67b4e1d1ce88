-- The sheets in the outputs of a list of events, compared with each reader's record.
use Rattle.std.specs.Prelude.{◌≡◌, ℕ, suc, ◌==◌, List, [], ◌∷◌, ◌++◌, slice_get}
use Rattle.std.specs.Prelude.{if◌then◌else◌, Some}
use Rattle.std.specs.List.Sorted.{IsNonDecreasingBy}
use Rattle.council_core.specs.Sheets.{front_of}
use Rattle.two_copy_steps.specs.declared.events.Note.{Note}
use Rattle.two_copy_steps.specs.declared.events.Note.TheVariants.{Read}
use Rattle.two_copy_steps.specs.declared.views.Stage.{Stage}
use Rattle.two_copy_steps.specs.Transitions.{MachineState}
use Rattle.two_copy_steps.specs.Auxiliary.{Auxiliary, record_at}
use Rattle.two_copy_steps.specs.Stages.{about_to_leave}

-- the sheet in this output if it is of the reader with this number, or none
abbrev pub reported_of : ℕ → Note → List (List ℕ)
reported_of number (Read reader words) = if reader == number then words ∷ [] else []
reported_of number note = []

-- the sheets in these outputs of the reader with this number, in order
abbrev pub sheets_reported : ℕ → List Note → List (List ℕ)
sheets_reported number [] = []
sheets_reported number (note ∷ rest) = reported_of number note ++ sheets_reported number rest

-- each reader's record is the sheets in its outputs, in order, followed by the words of the reading
-- that it is about to leave
abbrev pub RecordsAreReported : MachineState → Auxiliary → List Note → Type 0
RecordsAreReported m a reported =
    (r : ℕ) (stage : Stage) → slice_get m.readers r ≡ Some stage
    → record_at a.records r ≡ sheets_reported (suc r) reported ++ about_to_leave stage

-- in the outputs of one reader the fronts never fall
abbrev pub FrontsNeverFall : List Note → Type 0
FrontsNeverFall reported = (number : ℕ) → IsNonDecreasingBy front_of (sheets_reported number reported)
