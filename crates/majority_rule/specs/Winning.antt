-- The weights and sizes, and so the coalitions, that win by a majority.
use Rattle.std.specs.Prelude.{ℕ, ◌+◌, ◌*◌, ◌/◌, ◌≤◌, max, Bool, true, IsTrue, ◌&&◌, ◌↔◌}
use Rattle.std.specs.Prelude.{List, length, nat_lt, nat_le}
use Rattle.council_core.specs.Sheets.{weight_of, cast_of, total_of, open_chairs}
use Rattle.council_core.specs.Coalitions.{Rule}
use Rattle.majority_rule.specs.declared.majorities.Majority.{Majority}
use Rattle.majority_rule.specs.declared.majorities.Majority.TheVariants.{Half, Seventy, EightyFive, Quorum}

-- whether a weight w is enough if the open chairs cast c votes of a total of t: more than half of
-- the votes cast (Articles of Agreement, Article XII, Section 5(c)); at least 70 per cent (Article
-- XXVI, Section 2(b)) or 85 per cent (Article III, Section 2(c)) of the total voting power, and at
-- least one vote; at least half of the total (Article XII, Section 3(h))
abbrev pub is_weight_enough : Majority → ℕ → ℕ → ℕ → Bool
is_weight_enough Half c t w = nat_lt c (2 * w)
is_weight_enough Seventy c t w = nat_le 1 w && nat_le (7 * t) (10 * w)
is_weight_enough EightyFive c t w = nat_le 1 w && nat_le (17 * t) (20 * w)
is_weight_enough Quorum c t w = nat_le t (2 * w)

-- whether k of n open chairs are enough: for the quorum, a majority of the Executive Directors
-- (Article XII, Section 3(h))
abbrev pub is_size_enough : Majority → ℕ → ℕ → Bool
is_size_enough Half n k = true
is_size_enough Seventy n k = true
is_size_enough EightyFive n k = true
is_size_enough Quorum n k = nat_lt n (2 * k)

abbrev pub weight_wins : Majority → List ℕ → ℕ → Bool
weight_wins m sheet w = is_weight_enough m (cast_of sheet) (total_of sheet) w

abbrev pub size_wins : Majority → List ℕ → ℕ → Bool
size_wins m sheet k = is_size_enough m (length (open_chairs sheet)) k

-- whether k chairs with weight w win on a sheet
abbrev pub wins : Majority → List ℕ → ℕ → ℕ → Bool
wins m sheet w k = weight_wins m sheet w && size_wins m sheet k

-- whether a coalition wins on a sheet
abbrev pub rule_of : Majority → List ℕ → Rule
rule_of m sheet s = wins m sheet (weight_of s) (length s)

-- the least weight that is enough, as a number that computes; the contract of `quota` says that it
-- is the least
abbrev pub quota_at : Majority → ℕ → ℕ → ℕ
quota_at Half c t = c / 2 + 1
quota_at Seventy c t = max ((7 * t + 9) / 10) 1
quota_at EightyFive c t = max ((17 * t + 19) / 20) 1
quota_at Quorum c t = (t + 1) / 2

abbrev pub quota_of : Majority → List ℕ → ℕ
quota_of m sheet = quota_at m (cast_of sheet) (total_of sheet)

-- the least size that is enough, as a number that computes; 0 if no size is required
abbrev pub least_size_at : Majority → ℕ → ℕ
least_size_at Half n = 0
least_size_at Seventy n = 0
least_size_at EightyFive n = 0
least_size_at Quorum n = n / 2 + 1

abbrev pub least_size_of : Majority → List ℕ → ℕ
least_size_of m sheet = least_size_at m (length (open_chairs sheet))

-- a coalition wins exactly if it reaches the quota and the least size
abbrev pub QuotaLaw : Type 0
QuotaLaw = (m : Majority) (sheet : List ℕ) (w k : ℕ)
    → ((quota_of m sheet ≤ w) × (least_size_of m sheet ≤ k)) ↔ IsTrue (wins m sheet w k)

-- with at least the weight and the size of a winner, a coalition wins
abbrev pub MonotoneLaw : Type 0
MonotoneLaw = (m : Majority) (sheet : List ℕ) (w more k larger : ℕ) → w ≤ more → k ≤ larger
    → IsTrue (wins m sheet w k) → IsTrue (wins m sheet more larger)
