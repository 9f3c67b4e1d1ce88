-- Numbers, words and records at their limits and one beside them, computed; and the first fault before a script.
use Rattle.std.proofs.Common.{◌≡◌, ◌∙◌, ◌++◌, ℕ, true, false, List, [], ◌∷◌, length, replicate, Some, None, Ok, Err, refl}
use Rattle.std.proofs.lemmas.List.{length-replicate}
use Rattle.std.specs.Prelude.{codes}
use Rattle.council_core.specs.declared.commands.Command.TheVariants.{Open, Close, Move, SetVotes, Suspend, Restore, Admit, Withdraw}
use Rattle.council_core.specs.declared.calls.Order.TheVariants as order
use Rattle.council_core.specs.declared.refusals.Refusal.TheVariants.{BadHeader, BadLimit, BadReader, BadRecord, DuplicateMember, NoScript, TooLong, TooManyMembers}
use Rattle.council_core.specs.Sequential.{ordered, read}
use Rattle.csv.specs.Reading.{default_config, records, strip_bom}
use Rattle.majority_rule.specs.declared.majorities.Majority.TheVariants.{Half, Seventy, EightyFive, Quorum}
use Rattle.board_text.specs.Numbers.{number_of_digits}
use Rattle.board_text.specs.Requests.{Row, call_of, command_of, is_header, is_mark, member_of, reading_of, request_of}
use Rattle.board_text.specs.Text.{started_of, fault_at, in_range, is_reader, ledger_at_start, members_before, members_in, preamble_of, preamble_after_header, request_within, started_after, run_limits, unpublished_register}
use Rattle.majority_rule.specs.Majorities.{majority_of}
use Rattle.board_text.specs.Words.{chair_of, code_of_member, target_chair, votes_of}
use Rattle.board_text.specs.declared.bounds.Limits.{Limits}
use Rattle.board_text.specs.declared.input.TheConstants.{INPUT_LIMIT}
use Rattle.board_text.specs.declared.requests.Request.TheVariants as ask

-- the most bytes of an input, so that a changed constant is rejected
longest_input : INPUT_LIMIT ≡ 4194304
longest_input = refl

-- an input of one byte more is refused before anything in it is read, and one of the most bytes is read
too_long : (lim : Limits) (bytes : List ℕ) → in_range lim ≡ true → length bytes ≡ 4194305 → started_of lim bytes ≡ Err (fault_at TooLong 0)
unfolding started_of
too_long lim bytes range long = rw range (rw long refl)

not_too_long : (lim : Limits) (bytes : List ℕ) → in_range lim ≡ true → length bytes ≡ 4194304 → started_of lim bytes ≡ started_after lim (preamble_of (records default_config (strip_bom bytes)))
unfolding started_of
not_too_long lim bytes range long = rw range (rw long refl)

zeros_too_long : (n : ℕ) → n ≡ 4194305 → started_of (run_limits 1 9) (replicate n 48) ≡ Err (fault_at TooLong 0)
zeros_too_long n long = too_long (run_limits 1 9) (replicate n 48) refl (length-replicate n 48 ∙ long)

-- a number has one to twenty digits and is below 2^64
numbers : (number_of_digits (codes "0") ≡ Some 0) × (number_of_digits (codes "10") ≡ Some 10) × (number_of_digits (codes "007") ≡ Some 7)
numbers = (refl, refl, refl)

largest_number : (number_of_digits (codes "18446744073709551615") ≡ Some 18446744073709551615) × (number_of_digits (codes "18446744073709551616") ≡ None)
largest_number = (refl, refl)

digits_of_numbers : (number_of_digits [] ≡ None) × (number_of_digits (codes "00000000000000000001") ≡ Some 1) × (number_of_digits (codes "000000000000000000001") ≡ None)
digits_of_numbers = (refl, refl, refl)

-- the bytes before 0 and after 9 are no digits
no_digits : (number_of_digits (codes "/") ≡ None) × (number_of_digits (codes ":") ≡ None) × (number_of_digits (codes "1x") ≡ None) × (number_of_digits (codes "-1") ≡ None)
no_digits = (refl, refl, refl, refl)

-- chairs from 1 to 32, votes up to 2^40, codes of three capitals
chairs_in_range : (chair_of (codes "0") ≡ None) × (chair_of (codes "1") ≡ Some 1) × (chair_of (codes "32") ≡ Some 32) × (chair_of (codes "33") ≡ None)
chairs_in_range = (refl, refl, refl, refl)

votes_in_range : (votes_of (codes "0") ≡ Some 0) × (votes_of (codes "1099511627776") ≡ Some 1099511627776) × (votes_of (codes "1099511627777") ≡ None)
votes_in_range = (refl, refl, refl)

codes_of_members : (code_of_member (codes "AZA") ≡ Some (codes "AZA")) × (code_of_member (codes "AZa") ≡ None) × (code_of_member (codes "AZ") ≡ None) × (code_of_member (codes "AZAZ") ≡ None)
codes_of_members = (refl, refl, refl, refl)

targets : (target_chair (codes "none") ≡ Some None) × (target_chair (codes "32") ≡ Some (Some 32)) × (target_chair (codes "33") ≡ None) × (target_chair (codes "0") ≡ None)
targets = (refl, refl, refl, refl)

-- each majority by its word, and by no other
majorities : (majority_of (codes "half") ≡ Some Half) × (majority_of (codes "70") ≡ Some Seventy) × (majority_of (codes "85") ≡ Some EightyFive) × (majority_of (codes "quorum") ≡ Some Quorum)
majorities = (refl, refl, refl, refl)

no_majorities : (majority_of (codes "Half") ≡ None) × (majority_of (codes "71") ≡ None) × (majority_of [] ≡ None)
no_majorities = (refl, refl, refl)

-- the header has both of its words in their order, the mark its one, and nothing else
headers : (is_header (codes "member" ∷ codes "votes" ∷ []) ≡ true) × (is_header (codes "votes" ∷ codes "member" ∷ []) ≡ false) × (is_header (codes "member" ∷ codes "vote" ∷ []) ≡ false) × (is_header (codes "members" ∷ codes "votes" ∷ []) ≡ false) × (is_header (codes "member" ∷ []) ≡ false) × (is_header (codes "member" ∷ codes "votes" ∷ [] ∷ []) ≡ false)
headers = (refl, refl, refl, refl, refl, refl)

marks : (is_mark (codes "script" ∷ []) ≡ true) × (is_mark (codes "scripts" ∷ []) ≡ false) × (is_mark (codes "script" ∷ [] ∷ []) ≡ false) × (is_mark [] ≡ false)
marks = (refl, refl, refl, refl)

-- a member has a code and votes
no_members : (member_of (codes "AAA" ∷ []) ≡ None) × (member_of (codes "AAA" ∷ codes "x" ∷ []) ≡ None) × (member_of (codes "aaa" ∷ codes "1" ∷ []) ≡ None) × (member_of (codes "AAA" ∷ codes "1" ∷ [] ∷ []) ≡ None)
no_members = (refl, refl, refl, refl)

-- each command by its word
abbrev AAA : List ℕ
AAA = 65 ∷ 65 ∷ 65 ∷ []

commands_of_chairs : (command_of (codes "open" ∷ codes "1" ∷ []) ≡ Some (Open 1)) × (command_of (codes "close" ∷ codes "1" ∷ []) ≡ Some (Close 1)) × (command_of (codes "move" ∷ codes "AAA" ∷ codes "none" ∷ []) ≡ Some (Move AAA None))
commands_of_chairs = (refl, refl, refl)

commands_of_members : (command_of (codes "suspend" ∷ codes "AAA" ∷ []) ≡ Some (Suspend AAA)) × (command_of (codes "restore" ∷ codes "AAA" ∷ []) ≡ Some (Restore AAA)) × (command_of (codes "withdraw" ∷ codes "AAA" ∷ []) ≡ Some (Withdraw AAA))
commands_of_members = (refl, refl, refl)

commands_of_votes : (command_of (codes "votes" ∷ codes "AAA" ∷ codes "7" ∷ []) ≡ Some (SetVotes AAA 7)) × (command_of (codes "admit" ∷ codes "AAA" ∷ codes "7" ∷ []) ≡ Some (Admit AAA 7))
commands_of_votes = (refl, refl)

no_commands : (command_of (codes "open" ∷ codes "1" ∷ codes "1" ∷ []) ≡ None) × (command_of (codes "admit" ∷ codes "AAA" ∷ []) ≡ None) × (command_of (codes "opens" ∷ codes "1" ∷ []) ≡ None) × (command_of (codes "open" ∷ []) ≡ None)
no_commands = (refl, refl, refl, refl)

-- the other requests
readings_asked : (reading_of (codes "read" ∷ codes "1" ∷ codes "85" ∷ []) ≡ Some (ask.Read 1 EightyFive)) × (request_of (codes "read" ∷ codes "9" ∷ codes "half" ∷ []) ≡ Some (ask.Read 9 Half)) × (request_of (codes "read" ∷ codes "1" ∷ []) ≡ None)
readings_asked = (refl, refl, refl)

publications_asked : (request_of (codes "publish" ∷ []) ≡ Some (ask.Order order.Publish)) × (request_of (codes "publish" ∷ [] ∷ []) ≡ None) × (request_of [] ≡ None)
publications_asked = (refl, refl, refl)

calls_asked : (call_of (ask.Order order.Publish) ≡ ordered order.Publish) × (call_of (ask.Read 2 Half) ≡ read)
calls_asked = (refl, refl)

-- readers from 1 to the limit are in range; what isn't well formed is refused before its reader is looked at
readers_of_two : (is_reader (run_limits 2 9) 0 ≡ false) × (is_reader (run_limits 2 9) 1 ≡ true) × (is_reader (run_limits 2 9) 2 ≡ true) × (is_reader (run_limits 2 9) 3 ≡ false)
readers_of_two = (refl, refl, refl, refl)

requests_refused : (request_within (run_limits 2 9) (codes "read" ∷ codes "3" ∷ codes "half" ∷ []) ≡ Err BadReader) × (request_within (run_limits 2 9) (codes "read" ∷ codes "3" ∷ codes "none" ∷ []) ≡ Err BadRecord) × (request_within (run_limits 2 9) (codes "read" ∷ codes "2" ∷ codes "half" ∷ []) ≡ Ok (ask.Read 2 Half))
requests_refused = (refl, refl, refl)

-- from one to four readers, and a journal of one to a million commands
limits_in_range : (in_range (run_limits 1 1) ≡ true) × (in_range (run_limits 4 1000000) ≡ true)
limits_in_range = (refl, refl)

limits_out_of_range : (in_range (run_limits 0 1) ≡ false) × (in_range (run_limits 5 1) ≡ false) × (in_range (run_limits 1 0) ≡ false) × (in_range (run_limits 1 1000001) ≡ false)
limits_out_of_range = (refl, refl, refl, refl)

-- records are numbered from 1, the header's
abbrev header : Row
header = codes "member" ∷ codes "votes" ∷ []

abbrev member : Row
member = codes "AAA" ∷ codes "1" ∷ []

abbrev no_member : Row
no_member = codes "AAA" ∷ []

abbrev mark : Row
mark = codes "script" ∷ []

script_behind_a_member : preamble_of (header ∷ member ∷ mark ∷ mark ∷ []) ≡ Ok ((AAA, 1) ∷ [], 4, mark ∷ [])
unfolding preamble_after_header
script_behind_a_member = refl

script_without_members : preamble_of (header ∷ mark ∷ []) ≡ Ok ([], 3, [])
unfolding preamble_after_header
script_without_members = refl

faults_before_a_script : (preamble_of [] ≡ Err (fault_at BadHeader 0)) × (preamble_of (mark ∷ header ∷ []) ≡ Err (fault_at BadHeader 0)) × (preamble_of (header ∷ member ∷ []) ≡ Err (fault_at NoScript 0)) × (preamble_of (header ∷ no_member ∷ mark ∷ []) ≡ Err (fault_at BadRecord 2)) × (preamble_of (header ∷ member ∷ no_member ∷ []) ≡ Err (fault_at BadRecord 3))
unfolding preamble_after_header
faults_before_a_script = (refl, refl, refl, refl, refl)

-- 256 members are not too many, and one more is, also if it isn't well formed
abbrev largest_board : List Row
largest_board = replicate 256 member

after_256_members : (preamble_after_header (largest_board ++ mark ∷ []) ≡ Ok (replicate 256 (AAA, 1), 259, [])) × (preamble_after_header (largest_board ++ member ∷ mark ∷ []) ≡ Err (fault_at TooManyMembers 0)) × (preamble_after_header (largest_board ++ no_member ∷ []) ≡ Err (fault_at TooManyMembers 0))
unfolding preamble_after_header
after_256_members = (refl, refl, refl)

-- the members that are read, also where they meet a fault
members_read : (members_in (header ∷ member ∷ no_member ∷ member ∷ mark ∷ []) ≡ (AAA, 1) ∷ []) × (members_in (header ∷ member ∷ []) ≡ (AAA, 1) ∷ []) × (members_in (header ∷ mark ∷ member ∷ []) ≡ []) × (members_in (member ∷ member ∷ []) ≡ []) × (members_before (largest_board ++ member ∷ []) ≡ replicate 256 (AAA, 1))
unfolding members_before
members_read = (refl, refl, refl, refl, refl)

-- a register starts with these members and nothing published, or not at all
register_begun : started_after (run_limits 1 9) (Ok ((AAA, 1) ∷ [], 4, mark ∷ [])) ≡ Ok (ledger_at_start (run_limits 1 9) ((AAA, 1) ∷ []), 4, mark ∷ [])
register_begun = refl

register_refused : (started_after (run_limits 1 9) (Ok ((AAA, 1) ∷ (AAA, 2) ∷ [], 4, [])) ≡ Err (fault_at DuplicateMember 0)) × (started_after (run_limits 1 0) (Ok ([], 3, [])) ≡ Err (fault_at BadLimit 0)) × (started_after (run_limits 1 9) (Err (fault_at NoScript 0)) ≡ Err (fault_at NoScript 0))
register_refused = (refl, refl, refl)

nothing_done : (ledger_at_start (run_limits 1 9) [] ≡ record { opening = []; journal = []; limit = 9 }) × ((unpublished_register (ledger_at_start (run_limits 1 9) [])).published ≡ 0)
nothing_done = (refl, refl)
