-- The words of a board that is given by its weights, and the reasons for which calls are refused.
use Rattle.std.specs.Prelude.{◌≡◌, ℕ, ◌+◌, ◌-◌}
use Rattle.std.specs.Prelude.{None, List, [], ◌∷◌, ◌++◌, length, map, replicate}
use Rattle.council_core.specs.declared.limits.TheConstants.{CHAIRS}
use Rattle.council_core.specs.declared.refusals.Refusal.{Refusal}
use Rattle.council_core.specs.declared.refusals.Refusal.TheVariants.{BadRecord, BadSheet}
use Rattle.council_core.specs.Refusals.{code_of}
use Rattle.majority_rule.specs.Majorities.{majority_numbered}
use Rattle.c_values.specs.Counts.{IsSheetInRange}

-- the words of a sheet whose first chairs are open with these weights, before any command
abbrev pub words_of_weights : List ℕ → ℕ → List ℕ
words_of_weights weights total = map (λ w. w + 1) weights ++ (replicate (CHAIRS - length weights) 0 ++ total ∷ 0 ∷ [])

-- the reason for which a call by the majority with this number is refused: the words are not a
-- sheet's; or they are, and no majority has this number
abbrev pub IsRefusedAs : ℕ → List ℕ → Refusal → Type 0
IsRefusedAs number words BadSheet = IsSheetInRange words → ⊥
IsRefusedAs number words BadRecord = IsSheetInRange words × (majority_numbered number ≡ None)
IsRefusedAs number words _ = ⊥

-- the number of such a refusal
abbrev pub IsRefusal : ℕ → List ℕ → ℕ → Type 0
IsRefusal number words answer = (why : Refusal) × (answer ≡ code_of why) × IsRefusedAs number words why

-- the number of the refusal of a call by all majorities: the words are not a sheet's
abbrev pub IsRefusalOfWords : List ℕ → ℕ → Type 0
IsRefusalOfWords words answer = (answer ≡ code_of BadSheet) × (IsSheetInRange words → ⊥)
