-- The roll: members in order of entry, and the open chairs. The effect of each command on it.
use Rattle.std.specs.Prelude.{ℕ, ◌+◌, ◌≤◌, ◌==◌, Bool, true, false, not, ◌&&◌, if◌then◌else◌}
use Rattle.std.specs.Prelude.{List, [], ◌∷◌, ◌++◌, length, map, filter, position, sum_by, Option, None, Some}
use Rattle.std.specs.Prelude.{is_some, Result, Ok, Err, is_ok, IsTrue, nat_eq, nat_le}
use Rattle.std.specs.List.{list_any, range_with_len}
use Rattle.std.specs.Option.{option_map_or}
use Rattle.std.specs.Map.{keys_of, lookup}
use Rattle.std.specs.Cmp.Lexicographic.{pointwise}
use Rattle.std.specs.Result.{result_unwrap_or}
use Rattle.council_core.specs.declared.limits.TheConstants.{CHAIRS, MAX_COMMANDS, MAX_MEMBERS}
use Rattle.council_core.specs.declared.refusals.Refusal.{Refusal}
use Rattle.council_core.specs.declared.refusals.Refusal.TheVariants.{ChairOpen, ChairNotOpen, ChairHasMembers}
use Rattle.council_core.specs.declared.refusals.Refusal.TheVariants.{UnknownMember, MemberSuspended, AlreadyThere}
use Rattle.council_core.specs.declared.refusals.Refusal.TheVariants.{AlreadySuspended, NotSuspended, TooManyMembers}
use Rattle.council_core.specs.declared.refusals.Refusal.TheVariants.{MemberExists, MemberSeated}
use Rattle.council_core.specs.declared.commands.Command.{Command}
use Rattle.council_core.specs.declared.commands.Command.TheVariants.{Open, Close, Move, SetVotes, Suspend, Restore}
use Rattle.council_core.specs.declared.commands.Command.TheVariants.{Admit, Withdraw}
use Rattle.council_core.specs.declared.commands.Standing.{Standing}

-- a member's entry: its code, and its votes, chair and suspension
abbrev pub RollEntry : Type 0
RollEntry = List ℕ × Standing

-- whether two codes are the same, letter by letter
abbrev pub same_code : List ℕ → List ℕ → Bool
same_code a b = pointwise nat_eq a b

abbrev pub same_chair : Option ℕ → Option ℕ → Bool
same_chair None None = true
same_chair None (Some d) = false
same_chair (Some c) None = false
same_chair (Some c) (Some d) = c == d

pub record Roll : Type 0 where
  pub members : List RollEntry
  pub open_chairs : List ℕ

-- the opening: the members with which a register begins, and their votes
abbrev pub Opening : Type 0
Opening = List (List ℕ × ℕ)

-- the standing of a newly entered member: in no chair, not suspended
abbrev pub new_standing : ℕ → Standing
new_standing votes = record { votes = votes; chair = None; suspended = false }

abbrev pub new_entry : List ℕ × ℕ → RollEntry
new_entry m = (m.0, new_standing m.1)

abbrev pub opening_roll : Opening → Roll
opening_roll opening = record { members = map new_entry opening; open_chairs = [] }

abbrev pub is_open : Roll → ℕ → Bool
is_open r c = list_any (λ d. c == d) r.open_chairs

-- whether a member sits in this chair, suspended or not
abbrev pub sits_in : ℕ → Standing → Bool
sits_in c s = same_chair s.chair (Some c)

abbrev pub has_members : Roll → ℕ → Bool
has_members r c = list_any (λ m. sits_in c m.1) r.members

-- the standing of the member with this code, or None
abbrev pub standing_among : List ℕ → List RollEntry → Option Standing
standing_among code ms = lookup (same_code code) ms

-- the members with a new standing for the one with this code
abbrev pub with_standing : List ℕ → Standing → List RollEntry → List RollEntry
with_standing code s [] = []
with_standing code s (m ∷ ms) = if same_code code m.0 then (m.0, s) ∷ ms else m ∷ with_standing code s ms

-- the members without the one with this code; those after it move up
abbrev pub members_without : List ℕ → List RollEntry → List RollEntry
members_without code [] = []
members_without code (m ∷ ms) = if same_code code m.0 then ms else m ∷ members_without code ms

-- the index of the member with this code, or None
abbrev pub index_among : List ℕ → List RollEntry → Option ℕ
index_among code ms = position (same_code code) (keys_of ms)

-- the roll in which the member with this code has this standing
abbrev pub update : Roll → List ℕ → Standing → Result Roll Refusal
update r code s = Ok (record r { members = with_standing code s r.members })

abbrev pub roll_with_open : Roll → ℕ → Roll
roll_with_open r c = record r { open_chairs = c ∷ r.open_chairs }

abbrev pub open_chair : Roll → ℕ → Result Roll Refusal
open_chair r c = if is_open r c then Err ChairOpen else Ok (roll_with_open r c)

abbrev pub roll_with_closed : Roll → ℕ → Roll
roll_with_closed r c = record r { open_chairs = filter (λ d. not (c == d)) r.open_chairs }

abbrev pub close_chair : Roll → ℕ → Result Roll Refusal
close_chair r c =
    if is_open r c
    then (if has_members r c then Err ChairHasMembers else Ok (roll_with_closed r c))
    else Err ChairNotOpen

-- whether this is no chair or an open one
abbrev pub can_receive : Roll → Option ℕ → Bool
can_receive r to = option_map_or (is_open r) to true

abbrev pub move_member : Roll → List ℕ → Option ℕ → Standing → Result Roll Refusal
move_member r code to s =
    if s.suspended then Err MemberSuspended
    else (if can_receive r to
    then (if same_chair s.chair to then Err AlreadyThere else update r code (record s { chair = to }))
    else Err ChairNotOpen)

abbrev pub suspend_member : Roll → List ℕ → Standing → Result Roll Refusal
suspend_member r code s = if s.suspended then Err AlreadySuspended else update r code (record s { suspended = true })

abbrev pub restore_member : Roll → List ℕ → Standing → Result Roll Refusal
restore_member r code s = if s.suspended then update r code (record s { suspended = false }) else Err NotSuspended

-- applies a change to the member with this code, or refuses with UnknownMember
abbrev pub with_member : Roll → List ℕ → (Standing → Result Roll Refusal) → Result Roll Refusal
with_member r code f = option_map_or f (standing_among code r.members) (Err UnknownMember)

-- the roll with one more member, last in the order of entry
abbrev pub roll_with_member : Roll → List ℕ → ℕ → Roll
roll_with_member r code votes = record r { members = r.members ++ new_entry (code, votes) ∷ [] }

abbrev pub admit_member : Roll → List ℕ → ℕ → Result Roll Refusal
admit_member r code votes =
    if is_some (standing_among code r.members) then Err MemberExists
    else (if nat_le MAX_MEMBERS (length r.members) then Err TooManyMembers else Ok (roll_with_member r code votes))

abbrev pub roll_without_member : Roll → List ℕ → Roll
roll_without_member r code = record r { members = members_without code r.members }

-- a member that sits in a chair, suspended or not, cannot withdraw
abbrev pub withdraw_member : Roll → List ℕ → Standing → Result Roll Refusal
withdraw_member r code s = if is_some s.chair then Err MemberSeated else Ok (roll_without_member r code)

-- the next roll, or the first refusal
abbrev pub step : Roll → Command → Result Roll Refusal
step r (Open c) = open_chair r c
step r (Close c) = close_chair r c
step r (Move code to) = with_member r code (move_member r code to)
step r (SetVotes code n) = with_member r code (λ s. update r code (record s { votes = n }))
step r (Suspend code) = with_member r code (suspend_member r code)
step r (Restore code) = with_member r code (restore_member r code)
step r (Admit code votes) = admit_member r code votes
step r (Withdraw code) = with_member r code (withdraw_member r code)

-- the roll after a command; a refused command leaves it unchanged
abbrev pub next_roll : Roll → Command → Roll
next_roll r command = result_unwrap_or (step r command) r

-- the roll after all commands of a list
abbrev pub fold_from : Roll → List Command → Roll
fold_from r [] = r
fold_from r (command ∷ rest) = fold_from (next_roll r command) rest

-- the roll after the commands of a list that were accepted
abbrev pub roll_after : Opening → List Command → Roll
roll_after opening commands = fold_from (opening_roll opening) commands

abbrev pub all_accepted : Roll → List Command → Bool
all_accepted r [] = true
all_accepted r (command ∷ rest) = is_ok (step r command) && all_accepted (next_roll r command) rest

-- each command is accepted at its turn, and there are at most MAX_COMMANDS
abbrev pub IsLegal : Opening → List Command → Type 0
IsLegal opening commands = IsTrue (all_accepted (opening_roll opening) commands) × (length commands ≤ MAX_COMMANDS)

-- the votes of a member that count: none while it is suspended
abbrev pub effective_votes : Standing → ℕ
effective_votes s = if s.suspended then 0 else s.votes

-- the votes of a member that count in chair c
abbrev pub votes_in : ℕ → Standing → ℕ
votes_in c s = if sits_in c s then effective_votes s else 0

-- a chair's weight in votes: those of its members that are not suspended
abbrev pub weight : Roll → ℕ → ℕ
weight r c = sum_by (λ m. votes_in c m.1) r.members

-- the total voting power in votes: those of all members that are not suspended
abbrev pub total : Roll → ℕ
total r = sum_by (λ m. effective_votes m.1) r.members

-- the numbers of all chairs
abbrev pub chair_numbers : List ℕ
chair_numbers = range_with_len 1 CHAIRS

-- the votes that the open chairs cast together
abbrev pub cast : Roll → ℕ
cast r = sum_by (λ c. if is_open r c then weight r c else 0) chair_numbers

-- a chair's word: 0 if it is closed, else its weight plus 1
abbrev pub chair_word : Roll → ℕ → ℕ
chair_word r c = if is_open r c then weight r c + 1 else 0

-- the numbers of a roll's sheet; `front` is the number of accepted commands
abbrev pub sheet_words : Roll → ℕ → List ℕ
sheet_words r front = map (chair_word r) chair_numbers ++ total r ∷ front ∷ []

-- the sheet after the commands of a list
abbrev pub sheet : Opening → List Command → List ℕ
sheet opening commands = sheet_words (roll_after opening commands) (length commands)
