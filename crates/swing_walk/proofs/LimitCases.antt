-- Pairs, places and sizes at their limits and one beside them, computed; and what the laws of halves and of counts say of three chairs.
use Rattle.std.proofs.Common.{◌≡◌, ◌≤◌, ◌<◌, ◌+◌, ◌*◌, ◌^◌, ℕ, true, false, List, [], ◌∷◌, length, refl, ap, arith, true≢false}
use Rattle.std.specs.List.{IsDistinct}
use Rattle.council_core.specs.Coalitions.{IsRule, Rule, eta_of, omega_of, omega_with, subsets, threshold_rule}
use Rattle.council_core.specs.Sheets.{Chair}
use Rattle.half_sums.specs.declared.entry.Entry.{Entry}
use Rattle.half_sums.specs.Entries.{AreSubsets, entries_of, three_chairs}
use Rattle.swing_walk.specs.Laws.{AreHalf, BoundLaw, CoalitionLaw, CountLaw, CountsMeet, PairLaw, PairsAreCoalitions, SwingLaw, TwoHalvesLaw, board_of, pairs_of_sets}
use Rattle.swing_walk.specs.Pairs.{has_place, has_size, winning_pairs, winning_with, reaches, swings_of}
use Rattle.swing_walk.specs.Sizes.{at_least, one_at, partners_of}
use Rattle.swing_walk.specs.Tables.{high_weight, low_weight, weighted_sum}

abbrev set : ℕ → ℕ → Entry
set sum mask = record { sum = sum; mask = mask }

-- a chair in no winning set has no swing; one in half of them has none either; one in all has as many as there are
swings_by_counts : (swings_of 0 0 ≡ 0) × (swings_of 3 0 ≡ 0) × (swings_of 3 2 ≡ 1) × (swings_of 3 3 ≡ 3) × (swings_of 4 2 ≡ 0)
swings_by_counts = (refl, refl, refl, refl, refl)

-- exactly the quota is reached, and one vote less is not
quota_reached : (reaches 51 (set 50 1) (set 1 1) ≡ true) × (reaches 52 (set 50 1) (set 1 1) ≡ false) × (reaches 0 (set 0 0) (set 0 0) ≡ true)
quota_reached = (refl, refl, refl)

sizes_reached : (has_size 2 (set 50 1) (set 1 1) ≡ true) × (has_size 3 (set 50 1) (set 1 1) ≡ false) × (has_size 0 (set 0 0) (set 0 0) ≡ true)
unfolding lib.Count.ones
sizes_reached = (refl, refl, refl)

-- places 0 to 15 are on the left, 16 to 31 on the right
places : (has_place 0 (set 0 1) (set 0 0) ≡ true) × (has_place 0 (set 0 0) (set 0 1) ≡ false) × (has_place 15 (set 0 32768) (set 0 0) ≡ true) × (has_place 16 (set 0 0) (set 0 1) ≡ true) × (has_place 16 (set 0 1) (set 0 0) ≡ false) × (has_place 31 (set 0 0) (set 0 32768) ≡ true)
places = (refl, refl, refl, refl, refl, refl)

places_of_boards : board_of ((0, 50) ∷ []) ((0, 49) ∷ (1, 1) ∷ []) ≡ (0, 50) ∷ (16, 49) ∷ (17, 1) ∷ []
places_of_boards = refl

-- the chair of 50 votes on the left, and those of 49 and 1 on the right
abbrev left : List Entry
left = entries_of ((0, 50) ∷ [])

abbrev right : List Entry
right = entries_of ((0, 49) ∷ (1, 1) ∷ [])

pairs_of_three : (winning_pairs 51 0 left right ≡ 3) × (winning_pairs 50 0 left right ≡ 5) × (winning_pairs 50 2 left right ≡ 4) × (winning_pairs 101 0 left right ≡ 0)
unfolding lib.Count.ones
pairs_of_three = (refl, refl, refl, refl)

pairs_with_each : (winning_with 51 0 0 left right ≡ 3) × (winning_with 51 0 1 left right ≡ 0) × (winning_with 51 0 16 left right ≡ 2) × (winning_with 51 0 17 left right ≡ 2) × (winning_with 51 0 18 left right ≡ 0)
unfolding lib.Count.ones
pairs_with_each = (refl, refl, refl, refl, refl)

-- of three chairs' sets, those of at least each size, and those with which a set of one chair has enough chairs
sets_of_at_least : (at_least 0 (entries_of three_chairs) ≡ 8) × (at_least 1 (entries_of three_chairs) ≡ 7) × (at_least 3 (entries_of three_chairs) ≡ 1) × (at_least 4 (entries_of three_chairs) ≡ 0)
unfolding lib.Count.ones
sets_of_at_least = (refl, refl, refl, refl)

partners_by_size : (partners_of 0 4 (entries_of three_chairs) ≡ 8) × (partners_of 3 4 (entries_of three_chairs) ≡ 4) × (partners_of 4 4 (entries_of three_chairs) ≡ 1) × (partners_of 5 4 (entries_of three_chairs) ≡ 0)
unfolding lib.Count.ones
partners_by_size = (refl, refl, refl, refl)

added_at_sizes : (one_at 0 0 ≡ 1) × (one_at 2 3 ≡ 1) × (one_at 3 3 ≡ 0)
unfolding lib.Count.ones
added_at_sizes = (refl, refl, refl)

-- the slots of a low and of a high byte
slots_of_bytes : (low_weight 0 1 ≡ 1) × (low_weight 7 128 ≡ 1) × (low_weight 8 128 ≡ 0) × (high_weight 7 128 ≡ 0) × (high_weight 8 1 ≡ 1) × (high_weight 15 128 ≡ 1)
slots_of_bytes = (refl, refl, refl, refl, refl, refl)

amounts_by_index : weighted_sum (λ index. index) 0 (5 ∷ 7 ∷ 9 ∷ []) ≡ 25
amounts_by_index = refl

-- no half has a slot above 15, or two chairs at one
slot_16 : AreHalf ((16, 1) ∷ []) → ⊥
slot_16 h = omega (arith, h.slots 0 (0, 0) (omega arith))

slot_twice : AreHalf ((3, 1) ∷ (3, 2) ∷ []) → ⊥
unfolding IsDistinct
slot_twice h = true≢false h.distinct.0.0

-- what the counts of three chairs and an empty half say
pairs_counted : (from to : List Entry) → PairsAreCoalitions 51 0 three_chairs [] from to
    → (winning_pairs 51 0 from to ≡ 3) × (winning_with 51 0 0 from to ≡ 3) × (winning_with 51 0 1 from to ≡ 2) × (winning_with 51 0 16 from to ≡ 0)
pairs_counted from to h = (h.winning, h.with_chair 0, h.with_chair 1, h.with_chair 16)

counts_met : (from to : List Entry) → CountsMeet 51 0 three_chairs [] from to
    → (winning_pairs 51 0 from to ≤ 2 ^ 32) × (winning_with 51 0 1 from to ≤ winning_pairs 51 0 from to) × (0 < winning_with 51 0 1 from to → winning_pairs 51 0 from to ≤ 2 * winning_with 51 0 1 from to)
    × (swings_of (winning_pairs 51 0 from to) (winning_with 51 0 0 from to) ≡ 3) × (swings_of (winning_pairs 51 0 from to) (winning_with 51 0 1 from to) ≡ 1)
    × (swings_of (winning_pairs 51 0 from to) (winning_with 51 0 3 from to) ≡ 0)
counts_met from to h =
    (h.bound, h.within 1, h.half 1, h.swings [] ((1, 49) ∷ (2, 1) ∷ []) (0, 50) refl, h.swings ((0, 50) ∷ []) ((2, 1) ∷ []) (1, 49) refl, h.vacant 3 refl)

-- what the laws say of three chairs by any rule, quota or lists
swings_used : SwingLaw → (wins : Rule) → IsRule wins → eta_of wins (0, 50) three_chairs + omega_of wins three_chairs ≡ 2 * omega_with wins 0 three_chairs
swings_used law wins rule = law wins [] ((1, 49) ∷ (2, 1) ∷ []) (0, 50) rule refl

coalitions_used : CoalitionLaw → (left right : List Chair) → length (subsets (board_of left right)) ≡ length (pairs_of_sets left right)
coalitions_used law left right = ap length (law left right)

counts_used : CountLaw → (quota : ℕ) → swings_of (omega_of (threshold_rule quota 2) three_chairs) (omega_with (threshold_rule quota 2) 0 three_chairs) ≡ eta_of (threshold_rule quota 2) (0, 50) three_chairs
counts_used law quota = law quota 2 [] ((1, 49) ∷ (2, 1) ∷ []) (0, 50) refl

bound_used : BoundLaw → (quota : ℕ) → omega_with (threshold_rule quota 2) 5 three_chairs ≤ omega_of (threshold_rule quota 2) three_chairs
bound_used law quota = law quota 2 5 three_chairs

pairs_used : PairLaw → (from to : List Entry) → AreHalf three_chairs → AreHalf [] → AreSubsets three_chairs from → AreSubsets [] to → winning_pairs 51 0 from to ≡ 3
pairs_used law from to left right are_from are_to = (law 51 0 three_chairs [] from to left right are_from are_to).winning

halves_used : TwoHalvesLaw → (from to : List Entry) → AreHalf three_chairs → AreHalf [] → AreSubsets three_chairs from → AreSubsets [] to → winning_pairs 51 0 from to ≤ 2 ^ 32
halves_used law from to left right are_from are_to = (law 51 0 three_chairs [] from to left right are_from are_to).bound
