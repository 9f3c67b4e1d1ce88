-- The two halves of a sheet (Horowitz and Sahni 1974): the first half of its open chairs, by
-- number, is on the left, including the middle one of an odd number, and the others are on the
-- right, each at slots from 0.
use Rattle.std.specs.Prelude.{ℕ, ◌+◌, ◌-◌, ◌/◌, Bool, not, if◌then◌else◌, List, map}
use Rattle.std.specs.Prelude.{length, take, drop, nat_eq, nat_lt}
use Rattle.std.specs.List.{enumerate_from}
use Rattle.std.specs.Cmp.Lexicographic.{pointwise}
use Rattle.council_core.specs.Sheets.{open_chairs}
use Rattle.half_sums.specs.declared.entry.Entry.{Entry}
use Rattle.half_sums.specs.Entries.{AreSubsets}
use Rattle.half_sums.specs.declared.groups.TheConstants.{SLOTS}

-- the weights of the open chairs, by number
abbrev pub weights : List ℕ → List ℕ
weights words = map (λ chair. chair.1) (open_chairs words)

-- the size of the left half of this many open chairs
abbrev pub left_count : ℕ → ℕ
left_count chairs = (chairs + 1) / 2

abbrev pub left_weights : List ℕ → List ℕ
left_weights words = take (left_count (length (open_chairs words))) (weights words)

abbrev pub right_weights : List ℕ → List ℕ
right_weights words = drop (left_count (length (open_chairs words))) (weights words)

-- two lists of entries are those of the two halves of a sheet: a chair of a half is a slot and a
-- weight
pub record AreHalves (words : List ℕ) (left right : List Entry) : Type 0 where
  pub left_half : AreSubsets (enumerate_from 0 (left_weights words)) left
  pub right_half : AreSubsets (enumerate_from 0 (right_weights words)) right

-- the place in the counts of an open chair with `before` open chairs before it, if `on_left` chairs
-- are on the left: its slot on the left, or 16 plus its slot on the right
abbrev pub place_in_counts : ℕ → ℕ → ℕ
place_in_counts on_left before = if nat_lt before on_left then before else SLOTS + (before - on_left)

-- the place in the counts of the open chair of a sheet with `before` open chairs before it
abbrev pub open_chair_place : List ℕ → ℕ → ℕ
open_chair_place words before = place_in_counts (left_count (length (open_chairs words))) before

-- the words of the sixteen chairs from index `from` on
abbrev pub block_words : ℕ → List ℕ → List ℕ
block_words from words = take SLOTS (drop from words)

-- whether the sixteen chairs from index `from` on have the same words on two sheets
abbrev pub same_block : ℕ → List ℕ → List ℕ → Bool
same_block from old new = pointwise nat_eq (block_words from old) (block_words from new)

abbrev pub one_if : Bool → ℕ
one_if b = if b then 1 else 0

-- the number of blocks, of chairs 1 to 16 and of chairs 17 to 32, in which two sheets differ
abbrev pub changed_blocks : List ℕ → List ℕ → ℕ
changed_blocks old new = one_if (not (same_block 0 old new)) + one_if (not (same_block SLOTS old new))
