-- Pairs of a left and a right entry, counted one by one.
use Rattle.std.specs.Prelude.{ℕ, ◌+◌, ◌-◌, ◌*◌, ◌==◌, Bool, List, nat_le, nat_lt, if◌then◌else◌}
use Rattle.std.specs.Prelude.{◌&&◌}
use Rattle.std.specs.List.{sum_by, count_by}
use Rattle.std.specs.Int.{bit_at}
use Rattle.half_sums.specs.declared.entry.Entry.{Entry}
use Rattle.half_sums.specs.Groups.{size_of}
use Rattle.half_sums.specs.declared.groups.TheConstants.{SLOTS}

-- the number of pairs that pass a test
abbrev pub pairs_where : (Entry → Entry → Bool) → List Entry → List Entry → ℕ
pairs_where test left right = sum_by (λ l. count_by (test l) right) left

-- whether the sums of a pair reach the quota
abbrev pub reaches : ℕ → Entry → Entry → Bool
reaches quota l r = nat_le quota (l.sum + r.sum)

-- whether an entry has the chair at a slot
abbrev pub has_slot : ℕ → Entry → Bool
has_slot slot e = bit_at e.mask slot == 1

-- a test of pairs, and the first entry has the chair at a slot
abbrev pub with_slot : ℕ → (Entry → Entry → Bool) → Entry → Entry → Bool
with_slot slot test l r = test l r && has_slot slot l

-- whether a pair has the chair at a place: 0 to 15 on the left, 16 to 31 on the right
abbrev pub has_place : ℕ → Entry → Entry → Bool
has_place place l r = if nat_lt place SLOTS then has_slot place l else has_slot (place - SLOTS) r

-- whether a pair has at least this many chairs
abbrev pub has_size : ℕ → Entry → Entry → Bool
has_size least_size l r = nat_le least_size (size_of l + size_of r)

-- whether a pair wins: it reaches the quota and has the least size
abbrev pub wins_as_pair : ℕ → ℕ → Entry → Entry → Bool
wins_as_pair quota least_size l r = reaches quota l r && has_size least_size l r

-- the number of winning pairs
abbrev pub winning_pairs : ℕ → ℕ → List Entry → List Entry → ℕ
winning_pairs quota least_size left right = pairs_where (wins_as_pair quota least_size) left right

-- the number of winning pairs that have the chair at a place
abbrev pub winning_with : ℕ → ℕ → ℕ → List Entry → List Entry → ℕ
winning_with quota least_size place left right = pairs_where
    (λ l r. wins_as_pair quota least_size l r && has_place place l r) left right

-- the swings of a chair (Banzhaf 1965): 2 * with_chair - winning, from the number of winning sets
-- and the number of those that have the chair
abbrev pub swings_of : ℕ → ℕ → ℕ
swings_of winning with_chair = if with_chair == 0 then 0 else 2 * with_chair - winning
