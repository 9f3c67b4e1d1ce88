-- Instances of the laws at worked examples, which meet their premises, and examples that do not.
use Rattle.std.proofs.Common.{rules, ◌≡◌, ◌≤◌, ◌<◌, ◌+◌, ◌^◌, ◌++◌, ℕ, zero, suc, true, false, List, [], ◌∷◌, map, replicate, Some, None, Ok, Err, refl, sym, arith}
use Rattle.std.proofs.lemmas.Bool.{and_parts, leb-true, true≢false}
use Rattle.std.specs.Prelude.{codes, decimal, nat_le, slice_index}
use Rattle.std.specs.List.{list_all}
use Rattle.std.specs.Fmt.{digits}
use Rattle.csv.specs.Reading.{default_config, records, strip_bom}
use Rattle.council_core.specs.declared.commands.Command.TheVariants.{Admit, Close, Move, Open, Restore, SetVotes, Suspend, Withdraw}
use Rattle.council_core.specs.declared.refusals.Refusal.TheVariants.{BadRecord, TooManyMembers}
use Rattle.majority_rule.specs.declared.majorities.Majority.TheVariants.{Half, Seventy, Quorum}
use Rattle.board_text.specs.Laws.{InputLaw, IsReading, MajorityLaw, MemberLaw, NoOtherNumberLaw, NumberLaw, OneWordLaw, ReadingLaw, RequestLaw}
use Rattle.board_text.specs.Lines.{reading_lines}
use Rattle.board_text.specs.Numbers.{number_of_digits}
use Rattle.board_text.specs.Requests.{member_of, request_of, submission}
use Rattle.board_text.specs.Text.{fault_at, preamble_of, preamble_after_header}
use Rattle.majority_rule.specs.Majorities.{majority_of}
use Rattle.board_text.specs.Writing.{Field, IsCommand, IsMember, IsRequest, written_rows, member_row, request_row, row_text, rows_text}
use Rattle.board_text.specs.declared.requests.Request.TheVariants as ask

-- the largest number of 64 bits reads back, and the next one isn't a number
number_law_used : NumberLaw → number_of_digits (codes "18446744073709551615") ≡ Some 18446744073709551615
unfolding digits
number_law_used law = law 18446744073709551615 (omega arith)

number_too_large : number_of_digits (decimal (2 ^ 64)) ≡ None
unfolding digits
number_too_large = refl

-- of the digits of 7 nothing but zeros stands before a 7, and a word is no number
no_other_used : NoOtherNumberLaw → (field : List ℕ) → number_of_digits field ≡ Some 7 → (zeros : ℕ) × (field ≡ replicate zeros 48 ++ codes "7")
unfolding digits
no_other_used law field read = (law field 7 read).1

no_larger_number : NoOtherNumberLaw → (field : List ℕ) → number_of_digits field ≡ Some (2 ^ 64) → ⊥
no_larger_number law field read = absurd (omega (arith, (law field (2 ^ 64) read).0))

no_numbers : (number_of_digits (codes "none") ≡ None) × (number_of_digits (codes "007") ≡ Some 7)
no_numbers = (refl, refl)

majority_law_used : MajorityLaw → majority_of (codes "quorum") ≡ Some Quorum
majority_law_used law = law Quorum

one_word_used : OneWordLaw → (field : List ℕ) → majority_of field ≡ Some Seventy → field ≡ codes "70"
one_word_used law field read = law Seventy field read

another_word : majority_of (codes "Half") ≡ Some Half → ⊥
another_word e = cc e

-- a field that is quoted, and one that isn't
abbrev quoted : List ℕ → Field
quoted bytes = record { bytes = bytes; quoted = true }

abbrev plain : List ℕ → Field
plain bytes = record { bytes = bytes; quoted = false }

texts_of_records : (row_text (quoted (codes "open") ∷ plain (codes "2") ∷ []) ≡ codes "\"open\",2\n") × (row_text [] ≡ codes "\n") × (rows_text ((plain (codes "publish") ∷ []) ∷ (plain (codes "read") ∷ quoted (codes "1") ∷ quoted (codes "half") ∷ []) ∷ []) ≡ codes "publish\nread,\"1\",\"half\"\n")
texts_of_records = (refl, refl, refl)

request_law_used : RequestLaw → map request_of (records default_config (codes "\"open\",2\n")) ≡ Some (submission (Open 2)) ∷ []
unfolding digits
request_law_used law = law (submission (Open 2)) (omega arith, omega arith) (quoted (codes "open") ∷ plain (codes "2") ∷ []) refl

move_law_used : RequestLaw → map request_of (records default_config (codes "move,\"AAA\",none\n")) ≡ Some (submission (Move (65 ∷ 65 ∷ 65 ∷ []) None)) ∷ []
move_law_used law = law (submission (Move (65 ∷ 65 ∷ 65 ∷ []) None)) (refl, tt) (plain (codes "move") ∷ quoted (codes "AAA") ∷ plain (codes "none") ∷ []) refl

member_law_used : MemberLaw → map member_of (records default_config (codes "AAA,\"49\"\n")) ≡ Some (65 ∷ 65 ∷ 65 ∷ [], 49) ∷ []
unfolding digits
member_law_used law = law (65 ∷ 65 ∷ 65 ∷ [], 49) (refl, omega arith) (plain (codes "AAA") ∷ quoted (codes "49") ∷ []) refl

-- an input of one member and one request, some of its fields quoted
abbrev small_input : List (List Field)
small_input = (plain (codes "member") ∷ quoted (codes "votes") ∷ []) ∷ (quoted (codes "AAA") ∷ plain (codes "7") ∷ []) ∷ (quoted (codes "script") ∷ []) ∷ (plain (codes "open") ∷ quoted (codes "1") ∷ []) ∷ []

input_law_used : InputLaw → preamble_of (records default_config (strip_bom (codes "member,\"votes\"\n\"AAA\",7\n\"script\"\nopen,\"1\"\n"))) ≡ Ok ((codes "AAA", 7) ∷ [], 4, (codes "open" ∷ codes "1" ∷ []) ∷ [])
unfolding digits
input_law_used law = law ((codes "AAA", 7) ∷ []) (submission (Open 1) ∷ []) small_input (search rules) (search rules) (omega arith) refl

-- of 257 members the last is too many, and a member out of range is none
member_too_many : preamble_of (written_rows (replicate 257 (codes "AAA", 1)) []) ≡ Err (fault_at TooManyMembers 0)
unfolding digits preamble_after_header
member_too_many = refl

member_out_of_range : preamble_of (written_rows ((codes "AAA", 2 ^ 40 + 1) ∷ []) []) ≡ Err (fault_at BadRecord 2)
unfolding digits preamble_after_header
member_out_of_range = refl

rows_of_an_input : written_rows ((codes "AAA", 7) ∷ []) ((codes "publish" ∷ []) ∷ []) ≡ (codes "member" ∷ codes "votes" ∷ []) ∷ (codes "AAA" ∷ codes "7" ∷ []) ∷ (codes "script" ∷ []) ∷ (codes "publish" ∷ []) ∷ []
unfolding digits
rows_of_an_input = refl

-- what is out of range has a record that reads as nothing
records_of_nothing : (request_of (request_row (submission (Open 33))) ≡ None) × (request_of (request_row (submission (SetVotes (65 ∷ 65 ∷ 65 ∷ []) (2 ^ 40 + 1)))) ≡ None) × (request_of (request_row (submission (Suspend (codes "aaa")))) ≡ None) × (request_of (request_row (ask.Read (2 ^ 64) Half)) ≡ None) × (member_of (member_row (codes "AA", 1)) ≡ None)
unfolding digits
records_of_nothing = (refl, refl, refl, refl, refl)

opens_chair_0 : IsCommand (Open 0) → ⊥
opens_chair_0 is = omega (arith, is.0)

opens_chair_33 : IsRequest (submission (Open 33)) → ⊥
opens_chair_33 is = omega (arith, is.1)

closes_chair_33 : IsCommand (Close 33) → ⊥
closes_chair_33 is = omega (arith, is.1)

moves_to_chair_33 : IsCommand (Move (65 ∷ 65 ∷ 65 ∷ []) (Some 33)) → ⊥
moves_to_chair_33 is = let chair = is.1 in omega (arith, chair.1)

moves_no_member : IsCommand (Move (codes "aaa") None) → ⊥
moves_no_member is = true≢false (sym is.0)

sets_for_no_member : IsCommand (SetVotes (codes "aaa") 1) → ⊥
sets_for_no_member is = true≢false (sym is.0)

sets_too_many : IsCommand (SetVotes (65 ∷ 65 ∷ 65 ∷ []) (2 ^ 40 + 1)) → ⊥
sets_too_many is = omega (arith, is.1)

suspends_no_member : IsCommand (Suspend (codes "AA")) → ⊥
suspends_no_member is = true≢false (sym is)

restores_no_member : IsCommand (Restore (codes "AA")) → ⊥
restores_no_member is = true≢false (sym is)

admits_no_member : IsCommand (Admit (codes "AA") 1) → ⊥
admits_no_member is = true≢false (sym is.0)

admits_with_too_many : IsCommand (Admit (65 ∷ 65 ∷ 65 ∷ []) (2 ^ 40 + 1)) → ⊥
admits_with_too_many is = omega (arith, is.1)

withdraws_no_member : IsCommand (Withdraw (codes "AA")) → ⊥
withdraws_no_member is = true≢false (sym is)

reads_as_too_many : IsRequest (ask.Read (2 ^ 64) Half) → ⊥
reads_as_too_many is = omega (arith, is)

member_with_too_many : IsMember (65 ∷ 65 ∷ 65 ∷ [], 2 ^ 40 + 1) → ⊥
member_with_too_many is = omega (arith, is.1)

member_of_two_letters : IsMember (codes "AA", 1) → ⊥
member_of_two_letters is = true≢false (sym is.0)

-- chair 1 with 60 of 100 votes, after two commands
abbrev one_chair : List ℕ
one_chair = 61 ∷ replicate 31 0 ++ 100 ∷ 2 ∷ []

small-at : (ws : List ℕ) (k : ℕ) → list_all (λ w. nat_le w 100) ws ≡ true → slice_index ws k ≤ 100
small-at [] k small = omega arith
small-at (w ∷ ws) zero small = leb-true w 100 (and_parts (nat_le w 100) (list_all (λ w. nat_le w 100) ws) small).0
small-at (w ∷ ws) (suc k) small = small-at ws k (and_parts (nat_le w 100) (list_all (λ w. nat_le w 100) ws) small).1

read_by : (reader : ℕ) → reader < 2 ^ 64 → IsReading reader one_chair
read_by reader fits = record {
  number = fits;
  size = refl;
  sheet = record { chairs = λ k below. omega (arith, small-at one_chair k refl); cast = omega arith; total = omega arith; front = omega arith };
}

-- two readers' lines differ, and those of two majorities
readers_differ : ReadingLaw → reading_lines 1 Half one_chair ≡ reading_lines 2 Half one_chair → ⊥
readers_differ law same = omega (arith, (law 1 2 Half Half one_chair one_chair (read_by 1 (omega arith)) (read_by 2 (omega arith)) same).0)

majorities_differ : ReadingLaw → reading_lines 1 Half one_chair ≡ reading_lines 1 Quorum one_chair → ⊥
majorities_differ law same = let e = (law 1 1 Half Quorum one_chair one_chair (read_by 1 (omega arith)) (read_by 1 (omega arith)) same).1 in cc e

sheets_differ : ReadingLaw → (words : List ℕ) → IsReading 1 words → reading_lines 1 Half words ≡ reading_lines 1 Half one_chair → words ≡ one_chair
sheets_differ law words is same = (law 1 1 Half Half words one_chair is (read_by 1 (omega arith)) same).2

-- a word behind the 34 isn't printed, so that a sheet's size is a premise
word_not_printed : reading_lines 1 Half (one_chair ++ 7 ∷ []) ≡ reading_lines 1 Half one_chair
word_not_printed = refl

reading_of_35_words : IsReading 1 (one_chair ++ 7 ∷ []) → ⊥
reading_of_35_words is = let size = is.size in omega (arith, size)

reading_by_too_many : IsReading (2 ^ 64) one_chair → ⊥
reading_by_too_many is = omega (arith, is.number)
