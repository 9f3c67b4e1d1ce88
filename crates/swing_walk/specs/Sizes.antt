-- Sets counted by size, and the partners of a set that is passed.
use Rattle.std.specs.Prelude.{ℕ, ◌≡◌, ◌+◌, ◌<◌, ◌≤◌, ◌%◌, ◌^◌, List, slice_index_or, take, drop, count_ones}
use Rattle.std.specs.Prelude.{nat_le, if◌then◌else◌, Bool, true, false}
use Rattle.std.specs.List.{count_by}
use Rattle.half_sums.specs.declared.entry.Entry.{Entry}
use Rattle.half_sums.specs.Groups.{size_of, fewer_than}
use Rattle.half_sums.specs.declared.groups.TheConstants.{SIZES}
use Rattle.swing_walk.specs.declared.sizes.SizeTally.{SizeTally}
use Rattle.swing_walk.specs.declared.sizes.TheConstants.{LANES}
use Rattle.swing_walk.specs.Sides.{sizes_at}
use Rattle.swing_walk.specs.declared.partners.BySize.{BySize}
use Rattle.swing_walk.specs.declared.positions.Next.{Next}
use Rattle.swing_walk.specs.declared.positions.Position.{Position}
use Rattle.swing_walk.specs.declared.positions.Route.{Route}

-- the number of entries that have enough chairs together with the set of this mask
abbrev pub partners_of : ℕ → ℕ → List Entry → ℕ
partners_of least_size mask entries = count_by (λ e. nat_le least_size (count_ones mask + size_of e)) entries

-- the number of entries with at least `size` chairs
abbrev pub at_least : ℕ → List Entry → ℕ
at_least size entries = count_by (λ e. nat_le size (size_of e)) entries

-- what one set adds at a size: 1 if it has at least that many chairs, else 0
abbrev pub one_at : ℕ → ℕ → ℕ
one_at size mask = if nat_le size (count_ones mask) then 1 else 0

-- the count of a tally at a size
abbrev pub tally_of_size : ℕ → SizeTally → ℕ
tally_of_size size t = slice_index_or t.at_least size 0

-- a tally counts exactly these entries, modulo 2^16
abbrev pub IsSizeTally : List Entry → SizeTally → Type 0
IsSizeTally entries t = (size : ℕ) → size < LANES → tally_of_size size t ≡ at_least size entries % 2 ^ 16

-- the number of partners of the falling entry, if it is passed next, or otherwise of the rising one
abbrev pub partners_next : Bool → Next → Route → Position → ℕ
partners_next true next route position = partners_of route.least_size next.high.mask (drop position.up route.rising)
partners_next false next route position = partners_of route.least_size next.low.mask (drop position.rest route.falling)

-- a counter by size has counted the first `up` rising sets, the falling sets from `rest` on, and,
-- by their sizes, all rising sets
pub record CountsBySize (by : BySize) (route : Route) (position : Position) : Type 0 where
  pub fewer : (size : ℕ) → size ≤ SIZES → slice_index_or by.fewer size 0 ≡ fewer_than size route.rising
  pub risen : IsSizeTally (take position.up route.rising) (sizes_at 0 by.passed)
  pub fallen : IsSizeTally (drop position.rest route.falling) (sizes_at 1 by.passed)
