-- Tables of amounts, one for each value of a byte, and which of their amounts belong to a slot.
use Rattle.std.specs.Prelude.{ℕ, ◌+◌, ◌*◌, List, [], ◌∷◌, suc}
use Rattle.std.specs.Int.{bit_at}

-- the sum of a table, each item times the weight of its index; the first index is `index`
abbrev pub weighted_sum : (ℕ → ℕ) → ℕ → List ℕ → ℕ
weighted_sum weight index [] = 0
weighted_sum weight index (x ∷ xs) = weight index * x + weighted_sum weight (suc index) xs

-- 1 if a low byte has this slot, else 0; `high_weight` says so of a high byte
abbrev pub low_weight : ℕ → ℕ → ℕ
low_weight slot byte = bit_at byte slot

abbrev pub high_weight : ℕ → ℕ → ℕ
high_weight slot byte = bit_at (byte * 256) slot
