-- The counts of a sheet that a caller gets.
use Rattle.std.specs.Prelude.{◌≡◌, ℕ, ◌-◌, ◌^◌, ◌≤◌, ◌↔◌}
use Rattle.std.specs.Prelude.{IsTrue, Some, List, ◌++◌, length, map, replicate}
use Rattle.council_core.specs.declared.limits.TheConstants.{CHAIRS, SHEET_WORDS}
use Rattle.council_core.specs.Sheets.{Chair, open_chairs, cast_of, total_of, IsSheet}
use Rattle.council_core.specs.Coalitions.{Rule, omega_of, eta_of}
use Rattle.majority_rule.specs.declared.majorities.Majority.{Majority}
use Rattle.majority_rule.specs.declared.majorities.Majority.TheVariants.{Half, Seventy, EightyFive, Quorum}
use Rattle.majority_rule.specs.Majorities.{majority_numbered}
use Rattle.majority_rule.specs.Winning.{wins, rule_of}
use Rattle.c_values.specs.declared.counts.BoardChair.{BoardChair}
use Rattle.c_values.specs.declared.counts.BoardCounts.{BoardCounts}
use Rattle.c_values.specs.declared.counts.BoardAllCounts.{BoardAllCounts}

-- words are a complete sheet, each in its range
pub record IsSheetInRange (words : List ℕ) : Type 0 where
  pub long : length words ≡ SHEET_WORDS
  pub sheet : IsSheet words

-- a chair among those of a board: its number, its weight, its swings
abbrev pub chair_row : Rule → List Chair → Chair → BoardChair
chair_row rule board c = record { chair = c.0; weight = c.1; swings = eta_of rule c board }

-- a row without a chair
abbrev pub no_chair : BoardChair
no_chair = record { chair = 0; weight = 0; swings = 0 }

-- the counts of a sheet by a majority: a weight and a size win exactly if they reach the quota and
-- the least size, and there is a row for each open chair, by number, followed by zeros
pub record AreCountsOf (majority : Majority) (words : List ℕ) (counts : BoardCounts) : Type 0 where
  pub least_winning : (w k : ℕ)
      → ((counts.quota ≤ w) × (counts.least_size ≤ k)) ↔ IsTrue (wins majority words w k)
  pub cast : counts.cast ≡ cast_of words
  pub total : counts.total ≡ total_of words
  pub open_count : counts.chairs ≡ length (open_chairs words)
  pub omega : counts.omega ≡ omega_of (rule_of majority words) (open_chairs words)
  pub all : counts.coalitions ≡ 2 ^ length (open_chairs words)
  pub row_each : counts.rows
      ≡ map (chair_row (rule_of majority words) (open_chairs words)) (open_chairs words)
      ++ replicate (CHAIRS - length (open_chairs words)) no_chair

-- the counts of a sheet by the majority with this number
pub record ShowsCounts (number : ℕ) (words : List ℕ) (counts : BoardCounts) : Type 0 where
  pub majority : Majority
  pub known : majority_numbered number ≡ Some majority
  pub whole : IsSheetInRange words
  pub counts_of : AreCountsOf majority words counts

-- the counts of a sheet by each majority
pub record ShowsAllCounts (words : List ℕ) (counts : BoardAllCounts) : Type 0 where
  pub whole : IsSheetInRange words
  pub half : AreCountsOf Half words counts.half
  pub seventy : AreCountsOf Seventy words counts.seventy
  pub eighty_five : AreCountsOf EightyFive words counts.eighty_five
  pub quorum : AreCountsOf Quorum words counts.quorum
