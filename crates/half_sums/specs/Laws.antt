-- The masks in the list of a half.
use Rattle.std.specs.Prelude.{ℕ, ◌≡◌, ◌≤◌, ◌==◌, List, map}
use Rattle.std.specs.List.{All, count_by, IsDistinct}
use Rattle.council_core.specs.Sheets.{Chair}
use Rattle.half_sums.specs.declared.entry.Entry.{Entry}
use Rattle.half_sums.specs.Entries.{AreSubsets}
use Rattle.half_sums.specs.Masks.{IsOver}

-- the number of times that a mask appears in a list
abbrev pub occurrences : ℕ → List Entry → ℕ
occurrences mask entries = count_by (λ e. e.mask == mask) entries

-- no mask appears twice, each mask over the slots of the chairs appears exactly once, and no other
-- mask appears
pub record EachMaskOnce (chairs : List Chair) (entries : List Entry) : Type 0 where
  pub never_twice : (mask : ℕ) → occurrences mask entries ≤ 1
  pub once : (mask : ℕ) → IsOver chairs mask → occurrences mask entries ≡ 1
  pub no_other : All (λ e. IsOver chairs e.mask) entries

-- this holds of the list of a half whose chairs have distinct slots
abbrev pub MaskLaw : Type 0
MaskLaw = (chairs : List Chair) (entries : List Entry) → IsDistinct (λ a b. a == b) (map (λ chair. chair.0) chairs)
    → AreSubsets chairs entries → EachMaskOnce chairs entries
