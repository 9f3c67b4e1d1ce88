-- Definitions at their limits and one beside them, computed; and what they exclude.
use Rattle.std.proofs.Common.{rules, ◌≡◌, ◌≤◌, ◌<◌, ◌^◌, ◌+◌, ◌++◌, ℕ, true, false, List, [], ◌∷◌, length, replicate, Some, None, Ok, Err, refl, sym, ap, ◌∙◌, zero, suc, arith, true≢false, is_ok, nat_eq, subst, take, slice_index, slice_index_or, All}
use Rattle.std.proofs.lemmas.List.Elements.{All-from_recursion}
use Rattle.std.specs.Prelude.{⊤}
use Rattle.std.specs.List.Sorted.{IsPermutation}
use Rattle.council_core.specs.Codes.{IsCode, is_code}
use Rattle.council_core.specs.Coalitions.{IsRule, Rule, omega_of, omega_with, eta_of, threshold_rule}
use Rattle.council_core.specs.Ledgers.{IsLedger, Ledger, has_duplicate, ledger_as_of, room_of, start_verdict}
use Rattle.council_core.specs.Laws.{SetsInRange, IsOpening, same_set}
use Rattle.council_core.specs.Published.{IsShown, sequential_as_of, shown_as}
use Rattle.council_core.specs.Refusals.{refusal_of}
use Rattle.council_core.specs.Rolls.{IsLegal, Roll, admit_member, all_accepted, new_entry, sheet}
use Rattle.council_core.specs.Sequential.{AreCuts, AreLegalRecords, AreRecords, IsCutSheet, IsRecordFrom, Sequential, replies_of, submit}
use Rattle.council_core.specs.Sheets.{Chair, IsSheet, cast_of, front_of, open_chairs, total_of, weight_word}
use Rattle.council_core.specs.Verdicts.{Follows}
use Rattle.council_core.specs.declared.commands.Command.{Command}
use Rattle.council_core.specs.declared.commands.Command.TheVariants.{Open, Close, Move, SetVotes, Suspend, Restore, Admit}
use Rattle.council_core.specs.declared.refusals.Refusal.TheVariants.{ChairOpen, ChairNotOpen, UnknownMember, MemberSuspended, AlreadyThere, AlreadySuspended, NotSuspended, JournalFull, BadIndex, DuplicateMember, OutOfMemory, BadLimit}
use Rattle.council_core.proofs.WorkedCases.{AAA, BBB, accepted, refused, three, three_members}

-- three letters from A to Z, and no byte beside them
pub codes_taken : (is_code (65 ∷ 65 ∷ 65 ∷ []) ≡ true) × (is_code (90 ∷ 65 ∷ 90 ∷ []) ≡ true)
codes_taken = (refl, refl)

pub bytes_before_A : (is_code (64 ∷ 65 ∷ 65 ∷ []) ≡ false) × (is_code (65 ∷ 64 ∷ 65 ∷ []) ≡ false) × (is_code (65 ∷ 65 ∷ 64 ∷ []) ≡ false)
bytes_before_A = (refl, refl, refl)

pub bytes_after_Z : (is_code (91 ∷ 65 ∷ 65 ∷ []) ≡ false) × (is_code (65 ∷ 91 ∷ 65 ∷ []) ≡ false) × (is_code (65 ∷ 65 ∷ 91 ∷ []) ≡ false)
bytes_after_Z = (refl, refl, refl)

pub other_lengths : (is_code [] ≡ false) × (is_code (65 ∷ []) ≡ false) × (is_code (65 ∷ 65 ∷ []) ≡ false) × (is_code (65 ∷ 65 ∷ 65 ∷ 65 ∷ []) ≡ false)
other_lengths = (refl, refl, refl, refl)

pub code_taken : IsCode (65 ∷ 66 ∷ 90 ∷ [])
code_taken = refl

pub small_letter_taken : IsCode (65 ∷ 66 ∷ 122 ∷ []) → ⊥
small_letter_taken code = true≢false (sym code)

-- a rule by which one chair alone wins, but not two, is none; nor is one by which the first chair decides
abbrev alone : Rule
alone s = nat_eq (length s) 1

abbrev first_decides : Rule
first_decides [] = false
first_decides (chair ∷ s) = nat_eq chair.0 1

pub alone_is_no_rule : IsRule alone → ⊥
alone_is_no_rule rule = true≢false (sym (rule.grows (2, 5) ((1, 5) ∷ []) refl))

exchanged : IsPermutation {X = Chair} ((1, 5) ∷ (2, 5) ∷ []) ((2, 5) ∷ (1, 5) ∷ [])
exchanged = record { moves = (0, 1) ∷ []; below = (omega arith, omega arith, tt); is = refl }

pub first_is_no_rule : IsRule first_decides → ⊥
first_is_no_rule rule = true≢false (rule.same ((1, 5) ∷ (2, 5) ∷ []) ((2, 5) ∷ (1, 5) ∷ []) exchanged)

-- of 50, 49 and 1 votes, sets of exactly the quota win, and so do those of exactly the least size
pub exactly_the_quota : (omega_of (threshold_rule 50 0) three ≡ 5) × (omega_of (threshold_rule 100 0) three ≡ 1) × (omega_of (threshold_rule 101 0) three ≡ 0) × (omega_of (threshold_rule 0 0) three ≡ 8)
exactly_the_quota = (refl, refl, refl, refl)

pub exactly_the_size : (omega_of (threshold_rule 50 2) three ≡ 4) × (omega_of (threshold_rule 0 3) three ≡ 1) × (omega_of (threshold_rule 0 4) three ≡ 0)
exactly_the_size = (refl, refl, refl)

-- the winning sets that have a chair, and the swings of a chair without which none wins
pub winning_with : (omega_with (threshold_rule 51 0) 1 three ≡ 3) × (omega_with (threshold_rule 51 0) 2 three ≡ 2) × (omega_with (threshold_rule 51 0) 4 three ≡ 0)
winning_with = (refl, refl, refl)

pub swings_by_size : (eta_of (threshold_rule 0 3) (3, 1) three ≡ 1) × (eta_of (threshold_rule 0 0) (3, 1) three ≡ 0)
swings_by_size = (refl, refl)

-- sets are the same by the numbers of their chairs, all of them
pub same_sets : (same_set ((1, 5) ∷ []) ((1, 7) ∷ []) ≡ true) × (same_set ((1, 5) ∷ []) ((2, 5) ∷ []) ≡ false) × (same_set ((1, 5) ∷ []) ((1, 5) ∷ (2, 5) ∷ []) ≡ false)
same_sets = (refl, refl, refl)

-- chair 1 is closed, chair 2 open without votes, and the last chair has 5 votes
abbrev first_and_last : List ℕ
first_and_last = 0 ∷ 1 ∷ replicate 29 0 ++ 6 ∷ 7 ∷ 3 ∷ []

pub open_and_closed : (open_chairs first_and_last ≡ (2, 0) ∷ (32, 5) ∷ []) × (cast_of first_and_last ≡ 5) × (total_of first_and_last ≡ 7) × (front_of first_and_last ≡ 3)
open_and_closed = (refl, refl, refl, refl)

pub weights_of_chairs : (weight_word first_and_last 1 ≡ None) × (weight_word first_and_last 2 ≡ Some 0) × (weight_word first_and_last 31 ≡ None) × (weight_word first_and_last 32 ≡ Some 5)
weights_of_chairs = (refl, refl, refl, refl)

-- a sheet at each of its limits
pub largest_sheet : ((k : ℕ) → k < 32 → slice_index ((2 ^ 48 + 1) ∷ replicate 31 0 ++ 2 ^ 48 ∷ 1000000 ∷ []) k ≤ 2 ^ 48 + 1) → IsSheet ((2 ^ 48 + 1) ∷ replicate 31 0 ++ 2 ^ 48 ∷ 1000000 ∷ [])
largest_sheet small = record { chairs = small; cast = omega arith; total = omega arith; front = omega arith }

-- no word above 2^48 + 1, also not that of chair 32; no more cast than the total; no total above 2^48; no front above a million
pub word_too_large : IsSheet ((2 ^ 48 + 2) ∷ replicate 31 0 ++ 2 ^ 48 ∷ 0 ∷ []) → ⊥
word_too_large h = omega (arith, h.chairs 0 (omega arith))

pub last_word_too_large : IsSheet (replicate 31 0 ++ (2 ^ 48 + 2) ∷ 2 ^ 48 ∷ 0 ∷ []) → ⊥
last_word_too_large h = omega (arith, h.chairs 31 (omega arith))

pub more_cast_than_the_total : IsSheet (6 ∷ replicate 31 0 ++ 4 ∷ 0 ∷ []) → ⊥
more_cast_than_the_total h = omega (arith, h.cast)

pub total_too_large : IsSheet (replicate 32 0 ++ (2 ^ 48 + 1) ∷ 0 ∷ []) → ⊥
total_too_large h = omega (arith, h.total)

pub front_too_large : IsSheet (replicate 32 0 ++ 0 ∷ 1000001 ∷ []) → ⊥
front_too_large h = omega (arith, h.front)

-- chair 32 is the last that a sheet shows
pub last_chair : sheet three_members (Open 32 ∷ Move AAA (Some 32) ∷ []) ≡ replicate 31 0 ++ 51 ∷ 100 ∷ 2 ∷ []
last_chair = refl

-- a register starts with no member and a limit of 1; 256 members are not too many
pub starts_at_the_least : (start_verdict [] 1 ≡ Ok tt) × (start_verdict [] 0 ≡ Err BadLimit) × (start_verdict (replicate 256 (AAA, 1)) 5 ≡ Err DuplicateMember)
starts_at_the_least = (refl, refl, refl)

-- a 256th member is admitted
abbrev roll_of_255 : Roll
roll_of_255 = record { members = replicate 255 (new_entry (AAA, 1)); open_chairs = [] }

pub member_256 : is_ok (admit_member roll_of_255 BBB 1) ≡ true
member_256 = refl

-- a command meets each refusal, and of two the first: a suspended member is refused before the chair that it would move to is looked at
pub each_refusal : replies_of (record { ledger = record { opening = (AAA, 10) ∷ []; journal = []; limit = 9 }; published = 0 })
    (submit (Move BBB (Some 9)) ∷ submit (Move AAA (Some 9)) ∷ submit (Move AAA None) ∷ submit (Restore BBB) ∷ submit (Restore AAA) ∷ submit (Suspend BBB) ∷ submit (SetVotes BBB 1) ∷ submit (Suspend AAA) ∷ submit (Suspend AAA) ∷ submit (Move AAA (Some 9)) ∷ submit (Move AAA None) ∷ submit (Open 9) ∷ submit (Open 9) ∷ [])
    ≡ refused UnknownMember ∷ refused ChairNotOpen ∷ refused AlreadyThere ∷ refused UnknownMember ∷ refused NotSuspended ∷ refused UnknownMember ∷ refused UnknownMember ∷ accepted 1 ∷ refused AlreadySuspended ∷ refused MemberSuspended ∷ refused MemberSuspended ∷ accepted 2 ∷ refused ChairOpen ∷ []
each_refusal = refl

-- a journal one short of its limit has room
abbrev ledger : List Command → ℕ → Ledger
ledger journal limit = record { opening = three_members; journal = journal; limit = limit }

pub room_for_one : (room_of (ledger (Open 1 ∷ []) 2) ≡ Ok tt) × (room_of (ledger (Open 1 ∷ Open 2 ∷ []) 2) ≡ Err JournalFull)
room_for_one = (refl, refl)

-- no ledger has a refused command, more commands than its limit, or a limit above a million
pub refused_in_the_journal : IsLedger (ledger (Close 1 ∷ []) 2) → ⊥
refused_in_the_journal h = true≢false (sym h.legal.0)

pub behind_the_limit : IsLedger (ledger (Open 1 ∷ Open 2 ∷ []) 1) → ⊥
behind_the_limit h = omega (arith, h.within)

pub limit_too_large : IsLedger (ledger [] 1000001) → ⊥
limit_too_large h = omega (arith, h.small)

-- the votes that a command sets may be 2^40
pub most_votes : SetsInRange (SetVotes AAA (2 ^ 40)) × SetsInRange (Admit AAA (2 ^ 40))
most_votes = (omega arith, omega arith)

-- a register as of a command: fewer stay, and those of them that were published
abbrev two_done : ℕ → Sequential
two_done published = record { ledger = ledger (Open 1 ∷ Open 2 ∷ []) 5; published = published }

pub as_of_none_one_and_two : (ledger_as_of (ledger (Open 1 ∷ Open 2 ∷ []) 5) 0 ≡ ledger [] 5) × (ledger_as_of (ledger (Open 1 ∷ Open 2 ∷ []) 5) 1 ≡ ledger (Open 1 ∷ []) 5) × (ledger_as_of (ledger (Open 1 ∷ Open 2 ∷ []) 5) 3 ≡ ledger (Open 1 ∷ Open 2 ∷ []) 5)
as_of_none_one_and_two = (refl, refl, refl)

pub published_as_of : ((sequential_as_of (two_done 2) 1).published ≡ 1) × ((sequential_as_of (two_done 1) 1).published ≡ 1) × ((sequential_as_of (two_done 1) 2).published ≡ 1) × ((sequential_as_of (two_done 0) 2).published ≡ 0)
published_as_of = (refl, refl, refl, refl)

-- the sheet shown is that of its front, which the journal has reached
pub shown_before_it_is_accepted : IsShown (ledger [] 5) (replicate 32 0 ++ 100 ∷ 1 ∷ []) → ⊥
shown_before_it_is_accepted h = omega (arith, h.within)

pub another_total_shown : IsShown (ledger [] 5) (replicate 32 0 ++ 99 ∷ 0 ∷ []) → ⊥
another_total_shown h = omega (arith, ap total_of h.same)

-- cuts rise, and the last may be the end of the journal, but not behind it
pub falling_cuts : AreCuts (Open 1 ∷ Open 2 ∷ []) (2 ∷ 1 ∷ []) → ⊥
falling_cuts h = omega (arith, h.0 0 1 0 (omega arith) (omega arith))

pub cut_behind_the_end : AreCuts (Open 1 ∷ []) (2 ∷ []) → ⊥
cut_behind_the_end h = omega (arith, h.1 0 0 (omega arith))

pub cuts_up_to_the_end : AreCuts (Open 1 ∷ []) (0 ∷ 1 ∷ 1 ∷ [])
cuts_up_to_the_end = search rules

-- the sheets of no command and of one
abbrev of_none : List ℕ
of_none = replicate 32 0 ++ 100 ∷ 0 ∷ []

abbrev of_one : List ℕ
of_one = 1 ∷ replicate 31 0 ++ 100 ∷ 1 ∷ []

-- the front of the sheet shown says how many commands are published
pub shown_none_and_one : (shown_as (ledger (Open 1 ∷ Open 2 ∷ []) 5) of_none ≡ two_done 0) × (shown_as (ledger (Open 1 ∷ Open 2 ∷ []) 5) of_one ≡ two_done 1)
shown_none_and_one = (refl, refl)

pub sheet_of_no_cut : IsCutSheet three_members (Open 1 ∷ []) (0 ∷ []) of_one → ⊥
sheet_of_no_cut (cut, (k, below, is), same) =
    let first : k ≡ 0 = omega (arith, below) in
    let none : 0 ≡ cut = subst (λ (n : ℕ). slice_index_or (0 ∷ []) n cut ≡ cut) first is in
    omega (arith, ap front_of (subst (λ (n : ℕ). of_one ≡ sheet three_members (take n (Open 1 ∷ []))) (sym none) same))

pub older_than_before : IsRecordFrom three_members (Open 1 ∷ []) (0 ∷ 1 ∷ []) 0 (of_one ∷ of_none ∷ []) → ⊥
older_than_before h = omega (arith, h.2.1)

pub read_again : IsRecordFrom three_members (Open 1 ∷ []) (0 ∷ 1 ∷ []) 0 (of_one ∷ of_one ∷ [])
read_again = ((1, (1, omega arith, refl), refl), omega arith, ((1, (1, omega arith, refl), refl), omega arith, tt))

-- each sheet of each reader's record is of a cut
pub reading_of_no_cut : IsRecordFrom three_members (Open 1 ∷ []) (0 ∷ []) 0 (of_one ∷ []) → ⊥
reading_of_no_cut h = sheet_of_no_cut h.0

pub second_of_no_cut : IsRecordFrom three_members (Open 1 ∷ []) (0 ∷ []) 0 (of_none ∷ of_one ∷ []) → ⊥
second_of_no_cut h = sheet_of_no_cut h.2.0

pub first_reader : AreRecords three_members (Open 1 ∷ []) (0 ∷ []) ((of_one ∷ []) ∷ []) → ⊥
first_reader h = sheet_of_no_cut h.0.0

pub second_reader : AreRecords three_members (Open 1 ∷ []) (0 ∷ []) ([] ∷ (of_one ∷ []) ∷ []) → ⊥
second_reader h = sheet_of_no_cut h.1.0.0

-- legal records have a legal journal, cuts in order, and readings of cuts
pub records_of_a_refused_command : AreLegalRecords three_members (Close 1 ∷ []) (0 ∷ []) [] → ⊥
records_of_a_refused_command h = true≢false (sym h.legal.0)

pub records_of_falling_cuts : AreLegalRecords three_members (Open 1 ∷ Open 2 ∷ []) (2 ∷ 1 ∷ []) [] → ⊥
records_of_falling_cuts h = falling_cuts h.in_order

pub records_of_no_cut : AreLegalRecords three_members (Open 1 ∷ []) (0 ∷ []) ((of_one ∷ []) ∷ []) → ⊥
records_of_no_cut h = sheet_of_no_cut h.readings.0.0

-- a journal is legal if its first command is accepted and so is each after it, up to a million
pub first_refused : IsLegal three_members (Close 1 ∷ Open 1 ∷ []) → ⊥
first_refused h = true≢false (sym h.0)

pub last_refused : IsLegal three_members (Open 1 ∷ Open 1 ∷ []) → ⊥
last_refused h = true≢false (sym h.0)

pub too_many_commands : (commands : List Command) → length commands ≡ 1000001 → IsLegal three_members commands → ⊥
too_many_commands commands long h = omega (arith, h.1, long)

-- a million commands are legal, the last of them finds room, and none comes after it: chair 1 is opened and closed n times
pub pairs : ℕ → List Command
pairs zero = []
pairs (suc n) = Open 1 ∷ Close 1 ∷ pairs n

abbrev empty_roll : Roll
empty_roll = record { members = []; open_chairs = [] }

pairs-accepted : (n : ℕ) → all_accepted empty_roll (pairs n) ≡ true
unfolding pairs
pairs-accepted zero = refl
pairs-accepted (suc n) = pairs-accepted n

pairs-length : (n : ℕ) → length (pairs n) ≡ n + n
unfolding pairs
pairs-length zero = refl
pairs-length (suc n) = omega (arith, pairs-length n)

pub a_million_commands : (n : ℕ) → n + n ≡ 1000000 → IsLegal [] (pairs n) × IsLedger (record { opening = []; journal = pairs n; limit = 1000000 })
    × (front_of (sheet [] (pairs n)) ≡ 1000000)
a_million_commands n all =
    let long : length (pairs n) ≡ 1000000 = pairs-length n ∙ all in
    let legal : IsLegal [] (pairs n) = (pairs-accepted n, omega (arith, long)) in
    (legal, record { legal = legal; within = omega (arith, long); small = omega arith }, long)

pub room_for_the_last : (opening : List (List ℕ × ℕ)) (journal : List Command)
    → (length journal ≡ 999999 → room_of (record { opening = opening; journal = journal; limit = 1000000 }) ≡ Ok tt)
    × (length journal ≡ 1000000 → room_of (record { opening = opening; journal = journal; limit = 1000000 }) ≡ Err JournalFull)
room_for_the_last opening journal = ((λ long. rw long refl), (λ long. rw long refl))

-- an opening may have 256 members, and one of 2^40 votes
pub most_members : (opening : List (List ℕ × ℕ)) → length opening ≡ 256 → has_duplicate opening ≡ false → All (λ m. m.1 ≤ 2 ^ 40) opening → IsOpening opening
most_members opening long apart small = record { bound = omega (arith, long); apart = apart; small = small }

pub most_votes_of_one : IsOpening ((AAA, 2 ^ 40) ∷ [])
most_votes_of_one = record { bound = omega arith; apart = refl; small = All-from_recursion (λ (m : List ℕ × ℕ). m.1 ≤ 2 ^ 40) ((AAA, 2 ^ 40) ∷ []) (omega arith, tt) }

-- no opening has 257 members, or one of more than 2^40 votes
pub too_many_members : (opening : List (List ℕ × ℕ)) → length opening ≡ 257 → IsOpening opening → ⊥
too_many_members opening long h = omega (arith, h.bound, long)

pub too_many_votes : IsOpening ((AAA, 2 ^ 40 + 1) ∷ []) → ⊥
too_many_votes h = omega (arith, h.small 0 (AAA, 0) (omega arith))

-- no sheet out of range is shown
pub total_out_of_range : IsShown (record { opening = (AAA, 2 ^ 48 + 1) ∷ []; journal = []; limit = 5 }) (replicate 32 0 ++ (2 ^ 48 + 1) ∷ 0 ∷ []) → ⊥
total_out_of_range h = omega (arith, h.in_range.total)

-- what the definition gives is passed on, and only an Ok may be replaced, by one error
pub error_passed_over : Follows {A = ⊤} {B = ⊤} (Err BadLimit) (Ok tt) OutOfMemory → ⊥
error_passed_over h = cc h

pub error_replaced : Follows {A = ⊤} {B = ⊤} (Err BadLimit) (Err OutOfMemory) OutOfMemory → ⊥
error_replaced h = cc h

pub another_error : Follows {A = ⊤} {B = ⊤} (Ok tt) (Err BadLimit) OutOfMemory → ⊥
another_error h = cc h

pub out_of_memory : Follows {A = ⊤} {B = ⊤} (Ok tt) (Err OutOfMemory) OutOfMemory
out_of_memory = refl

-- the first and the last number of a refusal, and those beside them
pub numbers_of_refusals : (refusal_of 0 ≡ None) × (refusal_of 1 ≡ Some ChairOpen) × (refusal_of 35 ≡ Some BadIndex) × (refusal_of 36 ≡ None)
numbers_of_refusals = (refl, refl, refl, refl)
