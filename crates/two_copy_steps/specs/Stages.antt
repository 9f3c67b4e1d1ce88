-- The stage of a reader: its number of steps, its representation, and its next step.
use Rattle.std.specs.Prelude.{◌≡◌, ℕ, ◌+◌, ◌<◌, List, length, take, Option, None, Some}
use Rattle.std.specs.Option.{option_to_list}
use Rattle.council_core.specs.Sheets.{IsSheet}
use Rattle.two_copy_steps.specs.declared.views.Stage.{Stage}
use Rattle.two_copy_steps.specs.declared.views.Stage.TheVariants.{AtRest, Arrived, Reading, Leaving}
use Rattle.two_copy_steps.specs.declared.stages.Access.{Access}
use Rattle.two_copy_steps.specs.declared.stages.Access.TheVariants.{Load, Store}
use Rattle.two_copy_steps.specs.declared.stages.ReaderPc.{ReaderPc}
use Rattle.two_copy_steps.specs.declared.stages.ReaderPc.TheVariants as pc
use Rattle.two_copy_steps.specs.declared.table.TheConstants.{COPY_WORDS}
use Rattle.two_copy_steps.specs.Actions.{stage_with_words}

-- the number of steps of a reading before the load of its copy's last word: its pin, side, and all
-- words except one
abbrev pub last_load : ℕ
last_load = COPY_WORDS + 1

-- the number of steps before the last one
abbrev pub last_step : ℕ
last_step = last_load + 1

-- the number of steps of a reading: its pin, side, the words of a copy, its pin
abbrev pub reading_steps : ℕ
reading_steps = last_step + 1

-- the number of steps of a reading that are done at a stage
abbrev pub steps_taken : Stage → ℕ
steps_taken AtRest = 0
steps_taken Arrived = 1
steps_taken (Reading side words) = 2 + length words
steps_taken (Leaving side words) = last_step

-- a reader that is loading words has words left to load, and one that has loaded all has a sheet
abbrev pub IsReadable : Stage → Type 0
IsReadable AtRest = Unit {0}
IsReadable Arrived = Unit {0}
IsReadable (Reading side words) = length words < COPY_WORDS
IsReadable (Leaving side words) = (length words ≡ COPY_WORDS) × IsSheet words

-- the sheet that the step from a stage returns: only the last step of a reading returns one
abbrev pub sheet_read : Stage → Option (List ℕ)
sheet_read (Leaving side words) = Some words
sheet_read stage = None

-- the words of the reading that a reader is about to leave, or none
abbrev pub about_to_leave : Stage → List (List ℕ)
about_to_leave stage = option_to_list (sheet_read stage)

-- the stage of a reader by its representation: the side is used once it is loaded, and of the words
-- only those that are loaded
abbrev pub stage_of : ReaderPc → ℕ → List ℕ → Stage
stage_of pc.AtRest side words = AtRest
stage_of pc.Arrived side words = Arrived
stage_of (pc.Reading k) side words = Reading side (take k words)
stage_of pc.Leaving side words = Leaving side words

-- the program counter after word k is loaded
abbrev pub IsPcPast : ℕ → ReaderPc → Type 0
IsPcPast k pc = (side : ℕ) (words : List ℕ) → length words ≡ COPY_WORDS
    → stage_of pc side words ≡ stage_with_words side (take (k + 1) words)

-- the index of the word that is accessed
abbrev pub accessed_word : Access → ℕ
accessed_word (Load index) = index
accessed_word (Store index word) = index

-- the number that is left in the word, if `found` was in it
abbrev pub left_by : Access → ℕ → ℕ
left_by (Load index) found = found
left_by (Store index word) found = word
