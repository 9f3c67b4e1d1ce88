-- The counts of four chairs: worked examples, and what the definitions exclude.
use Rattle.std.proofs.Common.{◌≡◌, ◌≤◌, ◌++◌, ℕ, true, false, List, [], ◌∷◌, map, replicate, refl, subst, sym, arith, None, Some}
use Rattle.std.specs.Prelude.{IsTrue, ◌↔◌}
use Rattle.majority_rule.specs.declared.majorities.Majority.{Majority}
use Rattle.majority_rule.specs.declared.majorities.Majority.TheVariants.{Half}
use Rattle.majority_rule.specs.Winning.{rule_of, wins}
use Rattle.council_core.specs.Coalitions.{omega_of}
use Rattle.council_core.specs.Sheets.{IsSheet, open_chairs}
use Rattle.c_values.specs.declared.counts.BoardAllCounts.{BoardAllCounts}
use Rattle.c_values.specs.declared.counts.BoardChair.{BoardChair}
use Rattle.c_values.specs.declared.counts.BoardCounts.{BoardCounts}
use Rattle.c_values.specs.Counts.{AreCountsOf, ShowsAllCounts, ShowsCounts, chair_row, no_chair}

-- chairs 2, 4, 6 and 9 with 40, 30, 15 and 5 of 100 votes, after 11 commands: all numbers of the counts are different
abbrev four : List ℕ
four = 0 ∷ 41 ∷ 0 ∷ 31 ∷ 0 ∷ 16 ∷ 0 ∷ 0 ∷ 6 ∷ replicate 23 0 ++ 100 ∷ 11 ∷ []

abbrev row : ℕ → ℕ → ℕ → BoardChair
row chair weight swings = record { chair = chair; weight = weight; swings = swings }

-- where no chair is open, all 32 rows are zeros
no_rows : (counts : BoardCounts) → AreCountsOf Half (replicate 34 0) counts → counts.rows ≡ replicate 32 no_chair
no_rows counts h = h.row_each

-- what is shown at number 0 is by more than half of the votes cast: 7 coalitions win
half_shown : (counts : BoardCounts) → ShowsCounts 0 four counts → counts.omega ≡ 7
half_shown counts h =
    let known : Some Half ≡ Some h.majority = h.known in
    let same : Half ≡ h.majority = cc in
    subst (λ (m : Majority). counts.omega ≡ omega_of (rule_of m four) (open_chairs four)) (sym same) h.counts_of.omega

-- with the quota of 46 votes, a least size of none, the 90 votes cast, the total of 100, four chairs and the 16 coalitions
half_numbers : (counts : BoardCounts) → ShowsCounts 0 four counts → (counts.cast ≡ 90) × (counts.total ≡ 100) × (counts.chairs ≡ 4) × (counts.coalitions ≡ 16)
half_numbers counts h = (h.counts_of.cast, h.counts_of.total, h.counts_of.open_count, h.counts_of.all)

-- 46 votes win and 45 don't; where a quorum is asked for, three chairs win and two don't
half_wins : (counts : BoardCounts) → ShowsCounts 0 four counts → (counts.quota ≤ 46) × (counts.quota ≤ 45 → ⊥)
half_wins counts h =
    let known : Some Half ≡ Some h.majority = h.known in
    let same : Half ≡ h.majority = cc in
    let P : Majority → Type 0 = λ m. (w k : ℕ) → ((counts.quota ≤ w) × (counts.least_size ≤ k)) ↔ IsTrue (wins m four w k) in
    let least = subst P (sym same) h.counts_of.least_winning in
    let size : counts.least_size ≤ 0 = ((least 46 0).1 refl).1 in
    (((least 46 0).1 refl).0, λ within. let wrong : false ≡ true = (least 45 0).0 (within, size) in cc wrong)

quorum_size : (counts : BoardAllCounts) → ShowsAllCounts four counts → (counts.quorum.least_size ≤ 3) × (counts.quorum.least_size ≤ 2 → ⊥)
quorum_size counts h =
    let least = h.quorum.least_winning in
    let weight : counts.quorum.quota ≤ 50 = ((least 50 3).1 refl).0 in
    (((least 50 3).1 refl).1, λ within. let wrong : false ≡ true = (least 50 2).0 (weight, within) in cc wrong)

-- there is a row for each chair with its weight and swings, and 28 rows of zeros
half_rows : (counts : BoardCounts) → ShowsCounts 0 four counts
    → counts.rows ≡ row 2 40 5 ∷ row 4 30 3 ∷ row 6 15 3 ∷ row 9 5 1 ∷ replicate 28 (row 0 0 0)
half_rows counts h =
    let known : Some Half ≡ Some h.majority = h.known in
    let same : Half ≡ h.majority = cc in
    let P : Majority → Type 0 = λ m. counts.rows ≡ map (chair_row (rule_of m four) (open_chairs four)) (open_chairs four) ++ replicate 28 no_chair in
    subst P (sym same) h.counts_of.row_each

-- by the four majorities 7, 4, 2 and 5 coalitions win
all_shown : (counts : BoardAllCounts) → ShowsAllCounts four counts → (counts.half.omega ≡ 7) × (counts.seventy.omega ≡ 4) × (counts.eighty_five.omega ≡ 2) × (counts.quorum.omega ≡ 5)
all_shown counts h = (h.half.omega, h.seventy.omega, h.eighty_five.omega, h.quorum.omega)

-- nothing is shown at a number of no majority, nor of words that are no sheet's
none_shown : (counts : BoardCounts) → ShowsCounts 4 four counts → ⊥
none_shown counts h =
    let known : None ≡ Some h.majority = h.known in
    cc

no_sheet_shown : (counts : BoardCounts) → ShowsCounts 0 [] counts → ⊥
no_sheet_shown counts h = omega (arith, h.whole.long)

no_sheet_shown_by_all : (counts : BoardAllCounts) → ShowsAllCounts [] counts → ⊥
no_sheet_shown_by_all counts h = omega (arith, h.whole.long)

-- nor of one word less or more than those of a sheet
one_word_less : (counts : BoardCounts) → (ShowsCounts 0 (replicate 33 0) counts → ⊥) × (ShowsCounts 0 (replicate 35 0) counts → ⊥)
one_word_less counts = ((λ h. omega (arith, h.whole.long)), λ h. omega (arith, h.whole.long))

-- the words whose counts are shown have the ranges of a sheet
sheet_shown : (words : List ℕ) (counts : BoardCounts) → ShowsCounts 0 words counts → IsSheet words
sheet_shown words counts h = h.whole.sheet
