-- Quotas and least sizes of worked examples, computed by their definition from the 34 words of a
-- sheet.
use Rattle.std.proofs.Common.{◌≡◌, ◌≤◌, ℕ, List, [], ◌∷◌, ◌++◌, true, false, Some, None, refl, replicate, arith}
use Rattle.std.specs.Prelude.{IsTrue}
use Rattle.majority_rule.specs.declared.majorities.Majority.TheVariants.{Half, Seventy, EightyFive, Quorum}
use Rattle.majority_rule.specs.Majorities.{majority_numbered, number_of_majority}
use Rattle.majority_rule.specs.Winning.{quota_of, least_size_of, wins, rule_of, MonotoneLaw, QuotaLaw}

-- chairs 1, 2 and 3 with 50, 49 and 1 votes, and 100 votes more in no chair
abbrev three_chairs : List ℕ
three_chairs = 51 ∷ 50 ∷ 2 ∷ replicate 29 0 ++ 200 ∷ 6 ∷ []

-- more than half of the 100 votes cast
pub half_of_three : quota_of Half three_chairs ≡ 51
half_of_three = refl

-- 70 per cent of the total of 200, and 85
pub seventy_of_three : quota_of Seventy three_chairs ≡ 140
seventy_of_three = refl

pub eighty_five_of_three : quota_of EightyFive three_chairs ≡ 170
eighty_five_of_three = refl

-- half of the total, and a majority of the chairs
pub quorum_of_three : quota_of Quorum three_chairs ≡ 100
quorum_of_three = refl

pub two_of_three : least_size_of Quorum three_chairs ≡ 2
two_of_three = refl

pub any_of_three : least_size_of Half three_chairs ≡ 0
any_of_three = refl

-- 49 and 1 votes are no more than half of those cast; 50 and 1 are
pub two_lose : rule_of Half three_chairs ((2, 49) ∷ (3, 1) ∷ []) ≡ false
two_lose = refl

pub two_win : rule_of Half three_chairs ((1, 50) ∷ (3, 1) ∷ []) ≡ true
two_win = refl

-- half of the total by one chair alone is no quorum, by two it is
pub alone_no_quorum : wins Quorum three_chairs 100 1 ≡ false
alone_no_quorum = refl

pub two_a_quorum : wins Quorum three_chairs 100 2 ≡ true
two_a_quorum = refl

-- no weight at all never wins at a share of the total, also of a total of 0
pub nothing_of_nothing : wins Seventy (replicate 34 0) 0 0 ≡ false
nothing_of_nothing = refl

-- one chair that has the quorum's weight, or all of it, is still no quorum by its number
pub one_chair_no_quorum : (rule_of Quorum three_chairs ((1, 50) ∷ []) ≡ false) × (rule_of Quorum three_chairs ((1, 100) ∷ []) ≡ false)
one_chair_no_quorum = (refl, refl)

-- by the laws, with more votes and one more chair the two still win
pub three_a_quorum : MonotoneLaw → IsTrue (wins Quorum three_chairs 150 3)
three_a_quorum law = law Quorum three_chairs 100 150 2 3 (omega arith) (omega arith) refl

-- what reaches the quota and the least size wins, and what wins reaches them
pub reaching_wins : QuotaLaw → IsTrue (wins Quorum three_chairs 100 2)
reaching_wins law = (law Quorum three_chairs 100 2).0 (omega arith, omega arith)

pub winning_reaches : QuotaLaw → quota_of Quorum three_chairs ≤ 100
winning_reaches law = ((law Quorum three_chairs 100 2).1 refl).0

-- chairs 1 and 2 with 50 votes each, and none elsewhere: a tie, and an even number of chairs
abbrev two_chairs : List ℕ
two_chairs = 51 ∷ 51 ∷ replicate 30 0 ++ 100 ∷ 4 ∷ []

-- half of the votes cast is not more than half
pub half_of_two : (quota_of Half two_chairs ≡ 51) × (wins Half two_chairs 50 1 ≡ false) × (wins Half two_chairs 51 2 ≡ true)
half_of_two = (refl, refl, refl)

-- half of an even number of chairs is no majority of them, with any votes
pub one_of_two : (least_size_of Quorum two_chairs ≡ 2) × (wins Quorum two_chairs 100 1 ≡ false) × (wins Quorum two_chairs 50 2 ≡ true)
one_of_two = (refl, refl, refl)

-- exactly 70 per cent, 85 per cent and half of the total are enough, and one vote less is not
pub seventy_of_two : (quota_of Seventy two_chairs ≡ 70) × (wins Seventy two_chairs 70 2 ≡ true) × (wins Seventy two_chairs 69 2 ≡ false)
seventy_of_two = (refl, refl, refl)

pub eighty_five_of_two : (quota_of EightyFive two_chairs ≡ 85) × (wins EightyFive two_chairs 85 2 ≡ true) × (wins EightyFive two_chairs 84 2 ≡ false)
eighty_five_of_two = (refl, refl, refl)

pub quorum_of_two : (quota_of Quorum two_chairs ≡ 50) × (wins Quorum two_chairs 50 2 ≡ true) × (wins Quorum two_chairs 49 2 ≡ false)
quorum_of_two = (refl, refl, refl)

-- chairs 1 to 4 with 25, 25, 25 and 26 votes: an odd number of votes, which no percentage divides
abbrev four_chairs : List ℕ
four_chairs = 26 ∷ 26 ∷ 26 ∷ 27 ∷ replicate 28 0 ++ 101 ∷ 8 ∷ []

pub half_of_four : (quota_of Half four_chairs ≡ 51) × (wins Half four_chairs 51 2 ≡ true) × (wins Half four_chairs 50 2 ≡ false)
half_of_four = (refl, refl, refl)

pub seventy_of_four : (quota_of Seventy four_chairs ≡ 71) × (wins Seventy four_chairs 71 3 ≡ true) × (wins Seventy four_chairs 70 3 ≡ false)
seventy_of_four = (refl, refl, refl)

pub eighty_five_of_four : (quota_of EightyFive four_chairs ≡ 86) × (wins EightyFive four_chairs 86 4 ≡ true) × (wins EightyFive four_chairs 85 4 ≡ false)
eighty_five_of_four = (refl, refl, refl)

pub quorum_of_four : (quota_of Quorum four_chairs ≡ 51) × (wins Quorum four_chairs 51 3 ≡ true) × (wins Quorum four_chairs 50 3 ≡ false)
quorum_of_four = (refl, refl, refl)

-- three of four chairs are a majority of them, and two are not
pub three_of_four : (least_size_of Quorum four_chairs ≡ 3) × (wins Quorum four_chairs 101 2 ≡ false) × (wins Quorum four_chairs 101 3 ≡ true)
three_of_four = (refl, refl, refl)

-- without an open chair and without a vote nothing wins; only more than half of the votes cast and the shares ask for a vote
pub quotas_of_none : (quota_of Half (replicate 34 0) ≡ 1) × (quota_of Seventy (replicate 34 0) ≡ 1) × (quota_of EightyFive (replicate 34 0) ≡ 1) × (quota_of Quorum (replicate 34 0) ≡ 0)
quotas_of_none = (refl, refl, refl, refl)

pub none_wins : (wins Half (replicate 34 0) 0 0 ≡ false) × (wins EightyFive (replicate 34 0) 0 0 ≡ false) × (wins Quorum (replicate 34 0) 0 0 ≡ false) × (least_size_of Quorum (replicate 34 0) ≡ 1)
none_wins = (refl, refl, refl, refl)

-- the majorities by number, of which there is no other
pub numbers : (majority_numbered 0 ≡ Some Half) × (majority_numbered 1 ≡ Some Seventy) × (majority_numbered 2 ≡ Some EightyFive) × (majority_numbered 3 ≡ Some Quorum) × (majority_numbered 4 ≡ None)
numbers = (refl, refl, refl, refl, refl)

pub numbers_of_majorities : (number_of_majority Half ≡ 0) × (number_of_majority Seventy ≡ 1) × (number_of_majority EightyFive ≡ 2) × (number_of_majority Quorum ≡ 3)
numbers_of_majorities = (refl, refl, refl, refl)
