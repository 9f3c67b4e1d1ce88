-- Worked examples, computed by the definitions.
use Rattle.std.proofs.Common.{◌≡◌, ◌^◌, ℕ, List, [], ◌∷◌, ◌++◌, map, Some, None, Ok, Err, refl, ap, arith, replicate}
use Rattle.std.specs.List.{range_with_len}
use Rattle.council_core.specs.Refusals.{code_of, every_refusal, refusal_of}
use Rattle.council_core.specs.Ledgers.{start_verdict}
use Rattle.council_core.specs.Rolls.{Roll, Opening, new_entry, admit_member, sheet, cast, roll_after}
use Rattle.council_core.specs.Coalitions.{eta_of, omega_of, threshold_rule}
use Rattle.council_core.specs.Sheets.{Chair}
use Rattle.council_core.specs.Sequential.{Sequential, Reply, WouldAccept, answered, submit, publish, published_sheet, read, reading, replies_of}
use Rattle.council_core.specs.Published.{sequential_taken_back}
use Rattle.council_core.specs.declared.calls.Answer.TheVariants as answer
use Rattle.council_core.specs.declared.calls.Order.TheVariants as order
use Rattle.council_core.specs.declared.refusals.Refusal.{Refusal}
use Rattle.council_core.specs.declared.limits.TheConstants.{MAX_COMMANDS, MAX_MEMBERS, MAX_TOTAL, MAX_VOTES}
use Rattle.council_core.specs.declared.refusals.Refusal.TheVariants.{ChairOpen, JournalFull, MemberSuspended, ChairHasMembers, ChairNotOpen, UnknownMember, TooManyMembers, MemberExists, MemberSeated, BadLimit, DuplicateMember, NoEntry, TooManyChairs}
use Rattle.council_core.specs.declared.commands.Command.{Command}
use Rattle.council_core.specs.declared.commands.Command.TheVariants.{Open, Close, Move, SetVotes, Suspend, Restore, Admit, Withdraw}

-- replies of the sequential register
abbrev pub accepted : ℕ → Reply
accepted count = answered (answer.Accepted count)

abbrev pub refused : Refusal → Reply
refused why = answered (answer.Refused why)

abbrev pub published : ℕ → Reply
published front = answered (answer.Published front)

abbrev pub AAA : List ℕ
AAA = 65 ∷ 65 ∷ 65 ∷ []

abbrev pub BBB : List ℕ
BBB = 66 ∷ 66 ∷ 66 ∷ []

abbrev pub CCC : List ℕ
CCC = 67 ∷ 67 ∷ 67 ∷ []

abbrev pub three_members : Opening
three_members = (AAA, 50) ∷ (BBB, 49) ∷ (CCC, 1) ∷ []

abbrev one_in_each_chair : List Command
one_in_each_chair = Open 1 ∷ Open 2 ∷ Open 3 ∷ Move AAA (Some 1) ∷ Move BBB (Some 2) ∷ Move CCC (Some 3) ∷ []

pub three_chairs : sheet three_members one_in_each_chair ≡ 51 ∷ 50 ∷ 2 ∷ replicate 29 0 ++ 100 ∷ 6 ∷ []
three_chairs = refl

pub three_chairs-cast : cast (roll_after three_members one_in_each_chair) ≡ 100
three_chairs-cast = refl

pub members_without_a_chair : sheet ((AAA, 60) ∷ (BBB, 40) ∷ []) (Open 1 ∷ Move AAA (Some 1) ∷ []) ≡ 61 ∷ replicate 31 0 ++ 100 ∷ 2 ∷ []
members_without_a_chair = refl

pub all_suspended : sheet ((AAA, 10) ∷ []) (Open 1 ∷ Move AAA (Some 1) ∷ Suspend AAA ∷ []) ≡ 1 ∷ replicate 31 0 ++ 0 ∷ 3 ∷ []
all_suspended = refl

abbrev start : ℕ → Sequential
start limit = record { ledger = record { opening = (AAA, 10) ∷ []; journal = []; limit = limit }; published = 0 }

pub votes_of_a_suspended_member : replies_of (start 1000000) (submit (Open 1) ∷ submit (Move AAA (Some 1)) ∷ submit (Suspend AAA) ∷ submit (SetVotes AAA 25) ∷ submit (Move AAA None) ∷ submit (Restore AAA) ∷ publish ∷ read ∷ [])
    ≡ accepted 1 ∷ accepted 2 ∷ accepted 3 ∷ accepted 4 ∷ refused MemberSuspended ∷ accepted 5 ∷ published 5 ∷ reading (26 ∷ replicate 31 0 ++ 25 ∷ 5 ∷ []) ∷ []
votes_of_a_suspended_member = refl

pub close_with_suspended_members : replies_of (start 1000000) (submit (Close 1) ∷ submit (Open 1) ∷ submit (Move AAA (Some 1)) ∷ submit (Suspend AAA) ∷ submit (Close 1) ∷ submit (Restore AAA) ∷ submit (Move AAA None) ∷ submit (Close 1) ∷ [])
    ≡ refused ChairNotOpen ∷ accepted 1 ∷ accepted 2 ∷ accepted 3 ∷ refused ChairHasMembers ∷ accepted 4 ∷ accepted 5 ∷ accepted 6 ∷ []
close_with_suspended_members = refl

pub journal_full : replies_of (start 2) (submit (Open 1) ∷ submit (Open 2) ∷ submit (Open 3) ∷ submit (Open 1) ∷ [])
    ≡ accepted 1 ∷ accepted 2 ∷ refused JournalFull ∷ refused ChairOpen ∷ []
journal_full = refl

abbrev codes_after : Opening → List Command → List (List ℕ)
codes_after opening commands = map (λ m. m.0) (roll_after opening commands).members

pub members_move_up : codes_after three_members (Withdraw AAA ∷ []) ≡ BBB ∷ CCC ∷ []
members_move_up = refl

pub admitted_again_goes_last : codes_after three_members (Withdraw AAA ∷ Admit AAA 5 ∷ []) ≡ BBB ∷ CCC ∷ AAA ∷ []
admitted_again_goes_last = refl

pub come_and_go : replies_of (start 1000000) (submit (Admit AAA 5) ∷ submit (Admit CCC 5) ∷ submit (Open 1) ∷ submit (Move AAA (Some 1)) ∷ submit (Withdraw AAA) ∷ submit (Withdraw BBB) ∷ submit (Suspend AAA) ∷ submit (Withdraw AAA) ∷ publish ∷ read ∷ [])
    ≡ refused MemberExists ∷ accepted 1 ∷ accepted 2 ∷ accepted 3 ∷ refused MemberSeated ∷ refused UnknownMember ∷ accepted 4 ∷ refused MemberSeated ∷ published 4 ∷ reading (1 ∷ replicate 31 0 ++ 5 ∷ 4 ∷ []) ∷ []
come_and_go = refl

pub suspended_members_leave : replies_of (start 1000000) (submit (Suspend AAA) ∷ submit (Withdraw AAA) ∷ submit (Admit AAA 7) ∷ publish ∷ read ∷ [])
    ≡ accepted 1 ∷ accepted 2 ∷ accepted 3 ∷ published 3 ∷ reading (replicate 32 0 ++ 7 ∷ 3 ∷ []) ∷ []
suspended_members_leave = refl

pub journal_full_of_members : replies_of (start 1) (submit (Open 1) ∷ submit (Withdraw AAA) ∷ submit (Admit BBB 1) ∷ submit (Admit AAA 1) ∷ [])
    ≡ accepted 1 ∷ refused JournalFull ∷ refused JournalFull ∷ refused MemberExists ∷ []
journal_full_of_members = refl

-- as many members as there may be
abbrev full_roll : Roll
full_roll = record { members = replicate 256 (new_entry (AAA, 1)); open_chairs = [] }

pub no_257th_member : (admit_member full_roll AAA 1 ≡ Err MemberExists) × (admit_member full_roll BBB 1 ≡ Err TooManyMembers)
no_257th_member = (refl, refl)

-- of chairs with 50, 49 and 1 votes 51 win: each pair with the first, and all; so it has three swings, the others one each
abbrev pub three : List Chair
three = (1, 50) ∷ (2, 49) ∷ (3, 1) ∷ []

pub three_win : omega_of (threshold_rule 51 0) three ≡ 3
three_win = refl

pub swings_of_first : eta_of (threshold_rule 51 0) (1, 50) three ≡ 3
swings_of_first = refl

pub swings_of_second : eta_of (threshold_rule 51 0) (2, 49) three ≡ 1
swings_of_second = refl

pub swings_of_third : eta_of (threshold_rule 51 0) (3, 1) three ≡ 1
swings_of_third = refl

-- the limits by number, which definitions name
pub limits : (MAX_MEMBERS ≡ 256) × (MAX_COMMANDS ≡ 1000000) × (MAX_VOTES ≡ 2 ^ 40) × (MAX_TOTAL ≡ 2 ^ 48)
limits = (refl, refl, refl, refl)

-- a start looks at the limit first, then at how many members there are, and then at their codes
pub starts_in_order : (start_verdict (replicate 257 (AAA, 1)) 0 ≡ Err BadLimit) × (start_verdict (replicate 257 (AAA, 1)) 5 ≡ Err TooManyMembers) × (start_verdict ((AAA, 1) ∷ (BBB, 1) ∷ (AAA, 1) ∷ []) 5 ≡ Err DuplicateMember)
starts_in_order = (refl, refl, refl)

-- the largest limit, and one above it
pub starts_up_to : (start_verdict three_members 1000000 ≡ Ok tt) × (start_verdict three_members 1000001 ≡ Err BadLimit)
starts_up_to = (refl, refl)

-- the refusals by number are 1 to 35, and two of them that no run prints have these numbers
pub numbered : (map code_of every_refusal ≡ range_with_len 1 35) × (refusal_of 18 ≡ Some NoEntry) × (refusal_of 33 ≡ Some TooManyChairs)
numbered = (refl, refl, refl)

-- a register with three accepted commands, of which the first `published` are published
abbrev with_three : ℕ → Sequential
with_three published = record { ledger = record { opening = three_members; journal = Open 1 ∷ Open 2 ∷ Open 3 ∷ []; limit = 5 }; published = published }

abbrev with_first : ℕ → Sequential
with_first published = record { ledger = record { opening = three_members; journal = Open 1 ∷ []; limit = 5 }; published = published }

-- taken back to its first command, all that is left of the published ones is published, or less
pub taken_back : (sequential_taken_back (with_three 2) 1 3 ≡ with_first 1) × (sequential_taken_back (with_three 2) 1 0 ≡ with_first 0) × (sequential_taken_back (with_three 0) 1 1 ≡ with_first 0)
taken_back = (refl, refl, refl)

-- to no fewer commands than there are, no command is taken back, and publications may be
pub taken_back_to_more : (sequential_taken_back (with_three 2) 3 3 ≡ with_three 2) × (sequential_taken_back (with_three 2) 9 9 ≡ with_three 2) × (sequential_taken_back (with_three 2) 9 1 ≡ with_three 1)
taken_back_to_more = (refl, refl, refl)

-- to nothing, the opening is published
pub taken_back_to_nothing : published_sheet (sequential_taken_back (with_three 3) 0 3) ≡ replicate 32 0 ++ 100 ∷ 0 ∷ []
taken_back_to_nothing = refl

-- a command that is taken back is not published, and nothing is published that was not before
pub none_published_of_those_taken_back : sequential_taken_back (with_three 2) 1 3 ≡ with_first 2 → ⊥
none_published_of_those_taken_back h = two_is_not_one (ap (λ s. s.published) h)
  where
    two_is_not_one : ◌≡◌ {A = ℕ} 1 2 → ⊥
    two_is_not_one e = omega (arith, e)

pub none_published_first : sequential_taken_back (with_three 0) 3 3 ≡ with_three 3 → ⊥
none_published_first h = zero_is_not_three (ap (λ s. s.published) h)
  where
    zero_is_not_three : ◌≡◌ {A = ℕ} 0 3 → ⊥
    zero_is_not_three e = omega (arith, e)

-- the register would accept to open a fourth chair, but not the first again; a publication is no command
pub would_open : WouldAccept (with_three 1) (order.Submit (Open 4))
would_open = refl

pub would_refuse : WouldAccept (with_three 1) (order.Submit (Open 1)) → ⊥
would_refuse h = cc h

pub no_command : WouldAccept (with_three 1) order.Publish → ⊥
no_command h = h
