-- The position of a walk between a rising and a falling list, and what it has credited.
use Rattle.std.specs.Prelude.{ℕ, ◌≡◌, ◌+◌, ◌-◌, ◌<◌, ◌≤◌, List, length, take, drop, cond, Bool, true, false}
use Rattle.half_sums.specs.declared.entry.Entry.{Entry}
use Rattle.half_sums.specs.Entries.{entry_at}
use Rattle.swing_walk.specs.Pairs.{pairs_where, wins_as_pair, with_slot}
use Rattle.swing_walk.specs.Tallies.{slot_amount, tally_total}
use Rattle.swing_walk.specs.Sides.{tally_at}
use Rattle.swing_walk.specs.declared.positions.Route.{Route}
use Rattle.swing_walk.specs.declared.positions.Position.{Position}
use Rattle.swing_walk.specs.declared.positions.Next.{Next}
use Rattle.swing_walk.specs.declared.tally.MaskTally.{MaskTally}
use Rattle.swing_walk.specs.declared.walking.ChainPositions.{ChainPositions}

-- whether a pair wins by the quota and the least size of a route
abbrev pub wins_on : Route → Entry → Entry → Bool
wins_on route = wins_as_pair route.quota route.least_size

-- the route with its lists exchanged, which the chain from the other end walks
abbrev pub turned_route : Route → Route
turned_route route =
    record {
      rising = route.falling;
      falling = route.rising;
      quota = route.quota;
      least_size = route.least_size;
      rising_half = route.falling_half;
      falling_half = route.rising_half;
    }

-- the votes that the rising entry at `k` and the falling one at `m` have together
abbrev pub votes_at : Route → ℕ → ℕ → ℕ
votes_at route k m = (entry_at route.rising k).sum + (entry_at route.falling m).sum

-- the passed rising entries fall short with the falling entries that are left, and the passed
-- falling entries reach the quota with the rising entries that are left
pub record IsBetween (route : Route) (position : Position) : Type 0 where
  pub up_in : position.up ≤ length route.rising
  pub rest_in : position.rest ≤ length route.falling
  pub short : (k m : ℕ) → k < position.up → m < position.rest → votes_at route k m < route.quota
  pub reached : (k m : ℕ) → position.up ≤ k → k < length route.rising → position.rest ≤ m
      → m < length route.falling → route.quota ≤ votes_at route k m

-- the entry that is passed next is the falling one if it reaches the quota with the rising one, or
-- if there is no rising one; otherwise it is the rising one, which falls short with the falling
-- one, if there is one
abbrev pub IsPassed : Bool → Next → Route → Position → Type 0
IsPassed true next route position = (0 < position.rest) × (next.high ≡ entry_at route.falling (position.rest - 1))
    × (position.up < length route.rising → route.quota ≤ votes_at route position.up (position.rest - 1))
IsPassed false next route position =
    (position.up < length route.rising) × (next.low ≡ entry_at route.rising position.up)
    × (0 < position.rest → votes_at route position.up (position.rest - 1) < route.quota)

abbrev pub IsNext : Next → Route → Position → Type 0
IsNext next = IsPassed next.falls next

-- the first tally has, at each passed rising entry, the number of falling entries that win with it,
-- and the second tally has, at each passed falling entry, the number of such rising entries
pub record HasCredited (route : Route) (position : Position) (tallies : List MaskTally) : Type 0 where
  pub rising_total : tally_total (tally_at 0 tallies)
      ≡ pairs_where (wins_on route) (take position.up route.rising) route.falling
  pub rising_marked : (slot : ℕ) → slot_amount slot (tally_at 0 tallies)
      ≡ pairs_where (with_slot slot (wins_on route)) (take position.up route.rising) route.falling
  pub falling_total : tally_total (tally_at 1 tallies)
      ≡ pairs_where (wins_on route) (drop position.rest route.falling) route.rising
  pub falling_marked : (slot : ℕ) → slot_amount slot (tally_at 1 tallies)
      ≡ pairs_where (with_slot slot (wins_on route)) (drop position.rest route.falling) route.rising

-- what a counter of partners has counted of a route, once the entries before a position are passed
abbrev pub PartnerCounts : Type 1
PartnerCounts = Route → Position → Type 0

-- a chain at this position of its route: it has credited and counted the entries that it passed
pub record StandsAt (counts : PartnerCounts) (route : Route) (position : Position) (tallies : List MaskTally)
    : Type 0 where
  pub between : IsBetween route position
  pub credited : HasCredited route position tallies
  pub counted : counts route position

-- the position at which no entry is passed
abbrev pub at_start : Route → Position
at_start route = record { up = 0; rest = length route.falling }

-- the position after the falling entry is passed, or otherwise the rising one
abbrev pub position_after : Bool → Position → Position
position_after falls position = record { up = position.up + cond falls 0 1; rest = position.rest - cond falls 1 0 }

-- the position after `walked` steps, `up` of them up the rising list
abbrev pub at_step : Route → ℕ → ℕ → Position
at_step route walked up = record { up = up; rest = length route.falling - walked + up }

-- `passed` entries are passed at this position
abbrev pub HasPassed : ℕ → Position → List Entry → Type 0
HasPassed passed position falling = position.up + length falling ≡ passed + position.rest

-- two chains from both ends, after the same number of steps
pub record ChainsStand (front_counts back_counts : PartnerCounts) (route : Route) (ends : ChainPositions)
    (front back : List MaskTally) : Type 0 where
  pub front_passed : HasPassed ends.walked ends.front route.falling
  pub back_passed : HasPassed ends.walked ends.back route.rising
  pub front_stands : StandsAt front_counts route ends.front front
  pub back_stands : StandsAt back_counts (turned_route route) ends.back back
