-- Entries: the sets of a half's chairs by weight and slots, as lists of subset sums (Horowitz and
-- Sahni 1974).
use Rattle.std.specs.Prelude.{ℕ, ◌+◌, ◌*◌, ◌/◌, ◌%◌, ◌^◌, ◌<◌, ◌≤◌, List, [], ◌∷◌, ◌++◌, map}
use Rattle.std.specs.Prelude.{length, take, drop, slice_index_or, bit_or}
use Rattle.std.specs.List.{All}
use Rattle.std.specs.List.Sorted.{IsPermutation, IsNonDecreasingBy}
use Rattle.half_sums.specs.declared.entry.Entry.{Entry}
use Rattle.council_core.specs.declared.limits.TheConstants.{MAX_TOTAL}
use Rattle.council_core.specs.Sheets.{weight_of}
use Rattle.council_core.specs.Coalitions.{subsets}
use Rattle.half_sums.specs.Masks.{mask_of}
use Rattle.half_sums.specs.declared.groups.TheConstants.{SLOTS}
use Rattle.half_sums.specs.declared.lists.TheConstants.{ROOM}

-- the entry of a set of chairs, each a slot and a weight: the set's weight and its mask of slots
abbrev pub entry_of : List (ℕ × ℕ) → Entry
entry_of s = record { sum = weight_of s; mask = mask_of s }

-- an entry for each set of the chairs
abbrev pub entries_of : List (ℕ × ℕ) → List Entry
entries_of chairs = map entry_of (subsets chairs)

-- an entry with one more chair
abbrev pub entry_with : ℕ → ℕ → Entry → Entry
entry_with weight bit e = record { sum = e.sum + weight; mask = bit_or e.mask bit }

-- the set of a number, which is the set's votes times 2^16, plus its mask
abbrev pub set_of : ℕ → Entry
set_of number = record { sum = number / 2 ^ SLOTS; mask = number % 2 ^ SLOTS }

-- what a chair with this weight and bit adds to the number of a set that it joins
abbrev pub chair_number : ℕ → ℕ → ℕ
chair_number weight bit = weight * 2 ^ SLOTS + bit

-- the numbers of sets in words of 64 bits: those from index `full` on are 2^64 greater than their
-- words
abbrev pub numbers_from : ℕ → List ℕ → List ℕ
numbers_from full words = take full words ++ map (λ word. word + 2 ^ 64) (drop full words)

-- the sets in such words
abbrev pub entries_from : ℕ → List ℕ → List Entry
entries_from full words = map set_of (numbers_from full words)

-- each subset of the chairs once, ascending by sum
pub record AreSubsets (chairs : List (ℕ × ℕ)) (entries : List Entry) : Type 0 where
  pub each_once : IsPermutation (entries_of chairs) entries
  pub ascending : IsNonDecreasingBy (λ e. e.sum) entries

-- the invariant of every list of a half: at most 65,536 entries, ascending, no sum above
-- MAX_TOTAL, and no slot above 15
pub record IsHalf (entries : List Entry) : Type 0 where
  pub bound : length entries ≤ ROOM
  pub ascending : IsNonDecreasingBy (λ e. e.sum) entries
  pub small : All (λ e. e.sum ≤ MAX_TOTAL) entries
  pub slots : All (λ e. e.mask < 2 ^ SLOTS) entries

-- the default entry, for an index at which there is none
abbrev pub zero_entry : Entry
zero_entry = record { sum = 0; mask = 0 }

-- the entry at an index
abbrev pub entry_at : List Entry → ℕ → Entry
entry_at entries index = slice_index_or entries index zero_entry

-- worked example: chairs of 50, 49 and 1 votes
abbrev pub three_chairs : List (ℕ × ℕ)
three_chairs = (0, 50) ∷ (1, 49) ∷ (2, 1) ∷ []
