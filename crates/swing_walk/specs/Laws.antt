-- The laws of counting over pairs of entries and over all sets of chairs.
use Rattle.std.specs.Prelude.{ℕ, ◌≡◌, ◌+◌, ◌*◌, ◌^◌, ◌<◌, ◌≤◌, ◌==◌, false, List, []}
use Rattle.std.specs.Prelude.{◌∷◌, ◌++◌, map, flat_map, refl}
use Rattle.std.specs.List.{All, IsDistinct}
use Rattle.council_core.specs.Sheets.{Chair}
use Rattle.council_core.specs.Coalitions.{Rule, subsets, has_chair, omega_of, omega_with, eta_of, IsRule, threshold_rule}
use Rattle.half_sums.specs.declared.entry.Entry.{Entry}
use Rattle.half_sums.specs.Entries.{AreSubsets, entries_of, three_chairs}
use Rattle.swing_walk.specs.Pairs.{winning_pairs, winning_with, swings_of}
use Rattle.half_sums.specs.declared.groups.TheConstants.{SLOTS}

-- the number of swings of a chair from the counts of winning coalitions, for any rule (Felsenthal
-- and Machover 1998)
abbrev pub SwingLaw : Type 0
SwingLaw = (wins : Rule) (before after : List Chair) (chair : Chair) → IsRule wins
    → has_chair chair.0 (before ++ after) ≡ false →
    eta_of wins chair (before ++ chair ∷ after) + omega_of wins (before ++ chair ∷ after)
    ≡ 2 * omega_with wins chair.0 (before ++ chair ∷ after)

-- worked example: chairs of 50, 49 and 1 votes, quota 51
pub three_omega : omega_of (threshold_rule 51 0) three_chairs ≡ 3
three_omega = refl

pub three_with : (omega_with (threshold_rule 51 0) 0 three_chairs ≡ 3)
    × (omega_with (threshold_rule 51 0) 1 three_chairs ≡ 2)
    × (omega_with (threshold_rule 51 0) 2 three_chairs ≡ 2)
three_with = (refl, refl, refl)

pub three_eta : (eta_of (threshold_rule 51 0) (0, 50) three_chairs ≡ 3)
    × (eta_of (threshold_rule 51 0) (1, 49) three_chairs ≡ 1)
    × (eta_of (threshold_rule 51 0) (2, 1) three_chairs ≡ 1)
three_eta = (refl, refl, refl)

pub three_pairs : (winning_pairs 51 0 (entries_of three_chairs) (entries_of []) ≡ 3)
    × (winning_with 51 0 0 (entries_of three_chairs) (entries_of []) ≡ 3)
    × (winning_with 51 0 1 (entries_of three_chairs) (entries_of []) ≡ 2)
    × (winning_with 51 0 16 (entries_of three_chairs) (entries_of []) ≡ 0)
unfolding lib.Count.ones
three_pairs = (refl, refl, refl, refl)

-- worked example: the same chairs, quota 50 and least size 2
pub three_with_size : (omega_of (threshold_rule 50 2) three_chairs ≡ 4)
    × (eta_of (threshold_rule 50 2) (0, 50) three_chairs ≡ 2)
    × (eta_of (threshold_rule 50 2) (2, 1) three_chairs ≡ 2)
    × (winning_pairs 50 2 (entries_of three_chairs) (entries_of []) ≡ 4)
unfolding lib.Count.ones
three_with_size = (refl, refl, refl, refl)

-- worked example: sixteen chairs of one vote each
abbrev pub equal_chairs : List Chair
equal_chairs = (0, 1) ∷ (1, 1) ∷ (2, 1) ∷ (3, 1) ∷ (4, 1) ∷ (5, 1) ∷ (6, 1) ∷ (7, 1)
    ∷ (8, 1) ∷ (9, 1) ∷ (10, 1) ∷ (11, 1) ∷ (12, 1) ∷ (13, 1) ∷ (14, 1) ∷ (15, 1) ∷ []

-- the chairs of two halves, by place: 0 to 15 on the left, 16 to 31 on the right
abbrev pub board_of : List Chair → List Chair → List Chair
board_of left right = left ++ map (λ chair. (chair.0 + SLOTS, chair.1)) right

-- each set of the left half's chairs joined with each set of the right half's
abbrev pub pairs_of_sets : List Chair → List Chair → List (List Chair)
pairs_of_sets left right = flat_map (λ s. map (λ t. board_of s t) (subsets right)) (subsets left)

-- the coalitions of a board are the pairs of a set of one half and a set of the other, each once
abbrev pub CoalitionLaw : Type 0
CoalitionLaw = (left right : List Chair) → subsets (board_of left right) ≡ pairs_of_sets left right

-- the chairs of a half: distinct slots, 0 to 15
pub record AreHalf (chairs : List Chair) : Type 0 where
  pub slots : All (λ chair. chair.0 < SLOTS) chairs
  pub distinct : IsDistinct (λ a b. a == b) (map (λ chair. chair.0) chairs)

-- the counts of the pairs are those of the coalitions of the board
pub record PairsAreCoalitions (quota least_size : ℕ) (left right : List Chair) (from to : List Entry) : Type 0 where
  pub winning : winning_pairs quota least_size from to
      ≡ omega_of (threshold_rule quota least_size) (board_of left right)
  pub with_chair : (place : ℕ)
      → winning_with quota least_size place from to
      ≡ omega_with (threshold_rule quota least_size) place (board_of left right)

abbrev pub PairLaw : Type 0
PairLaw = (quota least_size : ℕ) (left right : List Chair) (from to : List Entry) → AreHalf left → AreHalf right
    → AreSubsets left from → AreSubsets right to → PairsAreCoalitions quota least_size left right from to

-- the results of `swings` for the counts of a board are the swings of each chair
abbrev pub CountLaw : Type 0
CountLaw = (quota least_size : ℕ) (before after : List Chair) (chair : Chair)
    → has_chair chair.0 (before ++ after) ≡ false →
    swings_of (omega_of (threshold_rule quota least_size) (before ++ chair ∷ after))
    (omega_with (threshold_rule quota least_size) chair.0 (before ++ chair ∷ after))
    ≡ eta_of (threshold_rule quota least_size) chair (before ++ chair ∷ after)

-- the winning coalitions that have a chair are at most as many as all winning coalitions
abbrev pub BoundLaw : Type 0
BoundLaw = (quota least_size place : ℕ) (chairs : List Chair)
    → omega_with (threshold_rule quota least_size) place chairs ≤ omega_of (threshold_rule quota least_size) chairs

-- the counts of two halves meet the requirements of `swings`, and its results are the swings of
-- each chair, 0 at a place without a chair
pub record CountsMeet (quota least_size : ℕ) (left right : List Chair) (from to : List Entry) : Type 0 where
  pub bound : winning_pairs quota least_size from to ≤ 2 ^ 32
  pub within : (place : ℕ) → winning_with quota least_size place from to ≤ winning_pairs quota least_size from to
  pub half : (place : ℕ) → 0 < winning_with quota least_size place from to
      → winning_pairs quota least_size from to ≤ 2 * winning_with quota least_size place from to
  pub swings : (before after : List Chair) (chair : Chair) → board_of left right ≡ before ++ chair ∷ after
      → swings_of (winning_pairs quota least_size from to) (winning_with quota least_size chair.0 from to)
      ≡ eta_of (threshold_rule quota least_size) chair (board_of left right)
  pub vacant : (place : ℕ) → has_chair place (board_of left right) ≡ false
      → swings_of (winning_pairs quota least_size from to) (winning_with quota least_size place from to) ≡ 0

abbrev pub TwoHalvesLaw : Type 0
TwoHalvesLaw = (quota least_size : ℕ) (left right : List Chair) (from to : List Entry)
    → AreHalf left → AreHalf right → AreSubsets left from → AreSubsets right to
    → CountsMeet quota least_size left right from to
