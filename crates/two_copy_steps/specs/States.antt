-- Consequences of the invariant, for every state of words and views.
use Rattle.std.specs.Prelude.{◌≡◌, ℕ, List, [], ◌∷◌, ◌++◌}
use Rattle.council_core.specs.declared.commands.Command.{Command}
use Rattle.council_core.specs.Rolls.{Opening}
use Rattle.council_core.specs.Sequential.{AreLegalRecords}
use Rattle.two_copy_steps.specs.declared.views.ReaderView.{ReaderView}
use Rattle.two_copy_steps.specs.declared.views.Stage.{Stage}
use Rattle.two_copy_steps.specs.declared.views.Stage.TheVariants.{Leaving}
use Rattle.two_copy_steps.specs.Lawful.{State, IsLawfulState, IsPublishable}
use Rattle.two_copy_steps.specs.Stages.{IsReadable}

abbrev pub IsLawfulBoard : Opening → State → Type 0
IsLawfulBoard opening s = IsLawfulState opening (IsPublishable opening) s

-- the last sheet in the record of a reader that has loaded all words has these words
abbrev pub EndsWith : List (List ℕ) → Stage → Type 0
EndsWith readings (Leaving side words) = (earlier : List (List ℕ)) × (readings ≡ earlier ++ words ∷ [])
EndsWith readings stage = Unit {0}

-- a reader's view: its record is legal for some list and cuts, and the words that it has loaded are
-- those of a sheet
pub record IsKnown (opening : Opening) (v : ReaderView) : Type 0 where
  pub list : List Command
  pub cuts : List ℕ
  pub records : AreLegalRecords opening list cuts (v.readings ∷ [])
  pub readable : IsReadable v.stage
  pub ends : EndsWith v.readings v.stage
