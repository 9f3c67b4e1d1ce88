-- The data that a register stores in addition to its journal, and their agreement with the roll.
use Rattle.std.specs.Prelude.{◌≡◌, ℕ, ◌+◌, ◌≤◌, ◌<◌, true, false, if◌then◌else◌}
use Rattle.std.specs.Prelude.{List, length, sum_by, All, slice_index, None, Some, Ok}
use Rattle.council_core.specs.Rolls.{Roll, RollEntry, chair_word, sits_in, total, is_open, can_receive, standing_among}
use Rattle.council_core.specs.Rolls.{index_among, has_members, roll_with_open, roll_with_closed, roll_with_member, roll_without_member, step}
use Rattle.council_core.specs.Rolls.{update, all_accepted, opening_roll}
use Rattle.council_core.specs.declared.limits.TheConstants.{CHAIRS, MAX_COMMANDS, MAX_MEMBERS, MAX_VOTES}
use Rattle.council_core.specs.declared.changes.Change.{Change}
use Rattle.council_core.specs.declared.changes.Change.TheVariants as change
use Rattle.council_core.specs.declared.commands.Command.{Command}
use Rattle.council_core.specs.declared.commands.Standing.{Standing}
use Rattle.council_core.specs.Ledgers.{Ledger, roll_of}
use Rattle.council_core.specs.Laws.{SetsInRange}
use Rattle.council_core.specs.Laws as laws

-- 1 for a member that sits in this chair, and 0 for any other
abbrev pub sits_as : ℕ → Standing → ℕ
sits_as c s = if sits_in c s then 1 else 0

-- the number of members that sit in a chair, suspended or not
abbrev pub members_in_chair : List RollEntry → ℕ → ℕ
members_in_chair members c = sum_by (λ m. sits_as c m.1) members

-- the stored members are those of the roll, and so are each chair's word and number of members, and
-- the total
pub record Mirrors (roll : Roll) (entries : List RollEntry) (words counts : List ℕ) (sum : ℕ) : Type 0 where
  pub same_members : entries ≡ roll.members
  pub each_word : (k : ℕ) → k < CHAIRS → slice_index words k ≡ chair_word roll (k + 1)
  pub each_count : (k : ℕ) → k < CHAIRS → slice_index counts k ≡ members_in_chair roll.members (k + 1)
  pub same_total : sum ≡ total roll
  pub closed_empty : (c : ℕ) → is_open roll c ≡ false → members_in_chair roll.members c ≡ 0
  pub bound : length entries ≤ MAX_MEMBERS
  pub small : All (λ m. m.1.votes ≤ MAX_VOTES) entries

-- the invariant of every register: members with which a register can start, commands that set votes
-- in range, a legal journal within its limit, room for MAX_MEMBERS members, and stored data that agree
-- with the roll after this journal
pub record IsKept (ledger : Ledger) (entries : List RollEntry) (spare : ℕ) (words counts : List ℕ)
    (sum : ℕ) : Type 0 where
  pub begun : laws.IsOpening ledger.opening
  pub votes : All SetsInRange ledger.journal
  pub legal : all_accepted (opening_roll ledger.opening) ledger.journal ≡ true
  pub within : length ledger.journal ≤ ledger.limit
  pub small_limit : ledger.limit ≤ MAX_COMMANDS
  pub room : MAX_MEMBERS ≤ length entries + spare
  pub mirrors : Mirrors (roll_of ledger) entries words counts sum

-- the command opens a chair that is closed
pub record OpensChair (roll : Roll) (command : Command) (chair : ℕ) : Type 0 where
  pub shut : is_open roll chair ≡ false
  pub effect : step roll command ≡ Ok (roll_with_open roll chair)

-- the command closes an open chair that has no members
pub record ClosesChair (roll : Roll) (command : Command) (chair : ℕ) : Type 0 where
  pub empty : has_members roll chair ≡ false
  pub effect : step roll command ≡ Ok (roll_with_closed roll chair)

-- the command gives the member with this code a new standing, and changes nothing else
pub record UpdatesMember (roll : Roll) (command : Command) (code : List ℕ) (old new : Standing) : Type 0 where
  pub known : standing_among code roll.members ≡ Some old
  pub seat : can_receive roll new.chair ≡ true
  pub effect : step roll command ≡ update roll code new

-- the command adds a member whose code is new
pub record EntersMember (roll : Roll) (command : Command) (code : List ℕ) (votes : ℕ) : Type 0 where
  pub unknown : standing_among code roll.members ≡ None
  pub room : length roll.members < MAX_MEMBERS
  pub effect : step roll command ≡ Ok (roll_with_member roll code votes)

-- the command removes the member with this code, which sits in no chair
pub record RemovesMember (roll : Roll) (command : Command) (code : List ℕ) (old : Standing) : Type 0 where
  pub known : standing_among code roll.members ≡ Some old
  pub unseated : old.chair ≡ None
  pub effect : step roll command ≡ Ok (roll_without_member roll code)

-- the effect of the command on the roll is this change
abbrev pub IsPlanned : Roll → Command → Change → Type 0
IsPlanned roll command (change.Open chair) = OpensChair roll command chair
IsPlanned roll command (change.Close chair) = ClosesChair roll command chair
IsPlanned roll command (change.Update index old new) =
    (code : List ℕ) × (index_among code roll.members ≡ Some index) × UpdatesMember roll command code old new
IsPlanned roll command (change.Enter code votes) = EntersMember roll command code votes
IsPlanned roll command (change.Remove index old) =
    (code : List ℕ) × (index_among code roll.members ≡ Some index) × RemovesMember roll command code old
