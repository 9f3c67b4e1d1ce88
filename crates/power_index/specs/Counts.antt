-- The results of the counts over the two halves of a sheet (Horowitz and Sahni 1974).
use Rattle.std.specs.Prelude.{◌≡◌, ℕ, ◌*◌, ◌^◌, ◌<◌, ◌≤◌, List, length, map, slice_index}
use Rattle.council_core.specs.declared.limits.TheConstants.{CHAIRS}
use Rattle.council_core.specs.Sheets.{Chair, open_chairs}
use Rattle.council_core.specs.Coalitions.{Rule, omega_of, eta_of, threshold_rule}
use Rattle.half_sums.specs.declared.entry.Entry.{Entry}
use Rattle.swing_walk.specs.Pairs.{winning_pairs, winning_with, swings_of}
use Rattle.power_index.specs.Halves.{AreHalves, open_chair_place}

-- the swings of the chairs of a board, in their order
abbrev pub etas : Rule → List Chair → List ℕ
etas wins board = map (λ c. eta_of wins c board) board

-- counts of a sheet by a quota and a least size: omega, and at each place a count that meets the
-- requirements of `swings`, from which it computes the swings of the open chair at that place
pub record AreCounts (quota least_size : ℕ) (words : List ℕ) (winning : ℕ) (with_chair : ℕ → ℕ)
    : Type 0 where
  pub omega : winning ≡ omega_of (threshold_rule quota least_size) (open_chairs words)
  pub bound : winning ≤ 2 ^ CHAIRS
  pub within : (place : ℕ) → place < CHAIRS → with_chair place ≤ winning
  pub half : (place : ℕ) → place < CHAIRS → 0 < with_chair place → winning ≤ 2 * with_chair place
  pub swings : (i : ℕ) → i < length (open_chairs words) → swings_of winning (with_chair (open_chair_place words i))
      ≡ slice_index (etas (threshold_rule quota least_size) (open_chairs words)) i

-- the pairs of the entries of the two halves count the coalitions of the sheet
abbrev pub EvaluationLaw : Type 0
EvaluationLaw = (quota least_size : ℕ) (words : List ℕ) (left right : List Entry) → AreHalves words left right →
    AreCounts quota least_size words (winning_pairs quota least_size left right)
    (λ place. winning_with quota least_size place left right)
