-- Sums over a sheet's words.
use Rattle.std.proofs.Common.{◌≡◌, ℕ, ◌+◌, ◌-◌, ◌<◌, ◌≤◌, List, length, take, get_or, sum_by, subst}
use Rattle.std.proofs.lemmas.List.{take-take}
use Rattle.std.proofs.lemmas.List.Sums.{sum_by_more, sum_by-take-le}
use Rattle.council_core.specs.Sheets.{weight_in, cast_of}

-- one more word
pub cast_step : (words : List ℕ) (i : ℕ) → i < length words → sum_by weight_in (take (i + 1) words) ≡ sum_by weight_in (take i words) + (get_or words i 0 - 1)
cast_step words i h = sum_by_more weight_in words i 0 h

sum_of_fewer : (words : List ℕ) (i n : ℕ) → i ≤ n → sum_by weight_in (take i words) ≤ sum_by weight_in (take n words)
sum_of_fewer words i n h = subst (λ (l : List ℕ). sum_by weight_in l ≤ sum_by weight_in (take n words)) (take-take i n words h) (sum_by-take-le weight_in (take n words) i)

-- the first words' sum is at most that of the 32
pub cast_below : (words : List ℕ) (i : ℕ) → i ≤ 32 → sum_by weight_in (take i words) ≤ cast_of words
cast_below words i h = sum_of_fewer words i 32 h

-- what the loop over the words asks
pub ruleset cast_more = (cast_step, cast_below)
