-- Halves, places and fractions at their limits and one beside them, boards of an even number of chairs, and what indices and
-- counts say, field by field.
use Rattle.std.proofs.Common.{◌≡◌, ◌≤◌, ◌<◌, ◌*◌, ◌^◌, ◌++◌, ℕ, List, [], ◌∷◌, Some, None, refl, sym, replicate, arith, true≢false}
use Rattle.std.specs.List.{enumerate_from}
use Rattle.std.proofs.lemmas.List.Sorted.{sum_by-IsPermutation}
use Rattle.majority_rule.specs.declared.majorities.Majority.TheVariants.{Half, Quorum}
use Rattle.majority_rule.specs.Winning.{rule_of}
use Rattle.council_core.specs.Sheets.{open_chairs}
use Rattle.half_sums.specs.declared.entry.Entry.{Entry}
use Rattle.swing_walk.specs.Pairs.{winning_pairs, swings_of}
use Rattle.power_index.specs.declared.indices.Indices.{Indices}
use Rattle.power_index.specs.Counts.{AreCounts, EvaluationLaw}
use Rattle.power_index.specs.Halves.{AreHalves, changed_blocks, left_count, left_weights, open_chair_place, place_in_counts, right_weights}
use Rattle.power_index.specs.Indices.{AreIndices, indices_of, ratio, ratio_unless_zero, rows_among}
use Rattle.power_index.proofs.WorkedCases.{indices, row, three_chairs}

-- of an odd number of chairs the middle one is on the left
halves_of_each : (left_count 0 ≡ 0) × (left_count 1 ≡ 1) × (left_count 2 ≡ 1) × (left_count 3 ≡ 2) × (left_count 31 ≡ 16) × (left_count 32 ≡ 16)
halves_of_each = (refl, refl, refl, refl, refl, refl)

halves_of_three : (left_weights three_chairs ≡ 50 ∷ 49 ∷ []) × (right_weights three_chairs ≡ 1 ∷ [])
halves_of_three = (refl, refl)

slots_from_0 : enumerate_from {X = ℕ} 0 (5 ∷ 7 ∷ []) ≡ (0, 5) ∷ (1, 7) ∷ []
slots_from_0 = refl

-- the last place on the left, and the first on the right, which is 16
places : (place_in_counts 2 0 ≡ 0) × (place_in_counts 2 1 ≡ 1) × (place_in_counts 2 2 ≡ 16) × (place_in_counts 2 3 ≡ 17) × (place_in_counts 16 15 ≡ 15) × (place_in_counts 16 16 ≡ 16) × (place_in_counts 16 31 ≡ 31)
places = (refl, refl, refl, refl, refl, refl, refl)

places_of_three : (open_chair_place three_chairs 0 ≡ 0) × (open_chair_place three_chairs 1 ≡ 1) × (open_chair_place three_chairs 2 ≡ 16)
places_of_three = (refl, refl, refl)

-- chair 16 is in the first block, chair 17 in the second, and the total in none
abbrev zeros : List ℕ
zeros = replicate 34 0

blocks_that_change : (changed_blocks zeros zeros ≡ 0) × (changed_blocks zeros (replicate 15 0 ++ 1 ∷ replicate 18 0) ≡ 1) × (changed_blocks zeros (replicate 16 0 ++ 1 ∷ replicate 17 0) ≡ 1) × (changed_blocks zeros (replicate 15 0 ++ 1 ∷ 1 ∷ replicate 17 0) ≡ 2) × (changed_blocks zeros (1 ∷ replicate 30 0 ++ 1 ∷ 0 ∷ 0 ∷ []) ≡ 2) × (changed_blocks zeros (replicate 32 0 ++ 1 ∷ 1 ∷ []) ≡ 0)
blocks_that_change = (refl, refl, refl, refl, refl, refl)

-- only a denominator of 0 is no fraction
fractions : (ratio_unless_zero 3 0 ≡ None) × (ratio_unless_zero 0 3 ≡ Some (ratio 0 3)) × (ratio_unless_zero 3 1 ≡ Some (ratio 3 1))
fractions = (refl, refl, refl)

-- chairs 1 and 2 with 50 votes each: half of the votes do not win
abbrev two_chairs : List ℕ
two_chairs = 51 ∷ 51 ∷ replicate 30 0 ++ 100 ∷ 4 ∷ []

two_chairs_half : indices_of Half two_chairs ≡ indices Half 4 2 51 0 100 100 1 4 (row 1 50 1 2 2 1 3 ∷ row 2 50 1 2 2 1 3 ∷ [])
two_chairs_half = refl

two_chairs_quorum : indices_of Quorum two_chairs ≡ indices Quorum 4 2 50 2 100 100 1 4 (row 1 50 1 2 2 1 3 ∷ row 2 50 1 2 2 1 3 ∷ [])
two_chairs_quorum = refl

-- chairs 1, 2, 3 and 32 with 25, 25, 25 and 26 votes: the last wins with any other, and the others only three together
abbrev four_chairs : List ℕ
four_chairs = 26 ∷ 26 ∷ 26 ∷ replicate 28 0 ++ 27 ∷ 101 ∷ 8 ∷ []

four_chairs_half : indices_of Half four_chairs
    ≡ indices Half 8 4 51 0 101 101 8 16 (row 1 25 2 8 12 8 8 ∷ row 2 25 2 8 12 8 8 ∷ row 3 25 2 8 12 8 8 ∷ row 32 26 6 8 12 8 8 ∷ [])
four_chairs_half = refl

-- a row of one chair has its share of the swings of all
row_of_one : rows_among (rule_of Half three_chairs) (open_chairs three_chairs) ((2, 49) ∷ []) ≡ row 2 49 1 4 5 3 5 ∷ []
row_of_one = refl

-- what the indices of chairs with 50, 49 and 1 votes say
shown : (i : Indices) → AreIndices Half three_chairs i
    → (i.majority ≡ Half) × (i.front ≡ 6) × (i.chairs ≡ 3) × (i.cast ≡ 100) × (i.total ≡ 100) × (i.winning ≡ 3) × (i.coalitions ≡ 8) × (i.act ≡ ratio 3 8)
    × (i.rows.items ≡ row 1 50 3 4 5 3 5 ∷ row 2 49 1 4 5 3 5 ∷ row 3 1 1 4 5 3 5 ∷ [])
shown i h = (h.same_majority, h.same_front, h.open_count, h.same_cast, h.same_total, h.omega, h.all, h.to_act, h.row_each)

-- 51 votes are the least with which they win
quota_shown : (i : Indices) → AreIndices Half three_chairs i → (i.quota ≤ 51) × (i.quota ≤ 50 → ⊥)
quota_shown i h = (((h.least_winning 51 0).1 refl).0, λ low. true≢false (sym ((h.least_winning 50 0).0 (low, ((h.least_winning 51 0).1 refl).1))))

-- and two chairs the least of a quorum
size_shown : (i : Indices) → AreIndices Quorum three_chairs i → (i.least_size ≤ 2) × (i.least_size ≤ 1 → ⊥)
size_shown i h = (((h.least_winning 50 2).1 refl).1, λ low. true≢false (sym ((h.least_winning 50 1).0 (((h.least_winning 50 2).1 refl).0, low))))

-- the lists of both halves have all their sets
left_sets_missing : (right : List Entry) → AreHalves three_chairs [] right → ⊥
left_sets_missing right h = omega (arith, sum_by-IsPermutation (λ e. 1) _ _ h.left_half.each_once)

right_sets_missing : (left : List Entry) → AreHalves three_chairs left [] → ⊥
right_sets_missing left h = omega (arith, sum_by-IsPermutation (λ e. 1) _ _ h.right_half.each_once)

-- the counts of these chairs by a quota of 51
counted : (winning : ℕ) (with_chair : ℕ → ℕ) → AreCounts 51 0 three_chairs winning with_chair
    → (winning ≡ 3) × (winning ≤ 2 ^ 32) × (with_chair 31 ≤ winning) × (0 < with_chair 31 → winning ≤ 2 * with_chair 31)
    × (swings_of winning (with_chair 0) ≡ 3) × (swings_of winning (with_chair 1) ≡ 1) × (swings_of winning (with_chair 16) ≡ 1)
counted winning with_chair h =
    (h.omega, h.bound, h.within 31 (omega arith), h.half 31 (omega arith), h.swings 0 (omega arith), h.swings 1 (omega arith), h.swings 2 (omega arith))

-- and by the law those of the lists of its halves
evaluation_used : EvaluationLaw → (left right : List Entry) → AreHalves three_chairs left right → winning_pairs 51 0 left right ≡ 3
evaluation_used law left right are = (law 51 0 three_chairs left right are).omega
