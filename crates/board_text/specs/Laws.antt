-- Laws of the text: what is written reads back, and what is printed of a reading determines it.
use Rattle.std.specs.Prelude.{◌≡◌, length, ℕ, ◌<◌, ◌^◌, ◌+◌, ◌≤◌, List, [], ◌∷◌, map, Option, Some, Ok}
use Rattle.std.specs.Prelude.{◌++◌, replicate, decimal, All}
use Rattle.csv.specs.Reading.{default_config, records, strip_bom}
use Rattle.council_core.specs.Rolls.{Opening}
use Rattle.council_core.specs.Sheets.{IsSheet}
use Rattle.council_core.specs.declared.limits.TheConstants.{MAX_MEMBERS, SHEET_WORDS}
use Rattle.majority_rule.specs.declared.majorities.Majority.{Majority}
use Rattle.board_text.specs.Lines.{reading_lines}
use Rattle.board_text.specs.Numbers.{number_of_digits}
use Rattle.board_text.specs.Requests.{Row, member_of, request_of}
use Rattle.board_text.specs.Text.{preamble_of}
use Rattle.majority_rule.specs.Majorities.{majority_of, word_of_majority}
use Rattle.board_text.specs.Writing.{Field, IsMember, IsRequest, bytes_of, member_row, request_row}
use Rattle.board_text.specs.Writing.{written_rows, row_text, rows_text}
use Rattle.board_text.specs.declared.requests.Request.{Request}

-- a number printed and read back is itself
abbrev pub NumberLaw : Type 0
NumberLaw = (n : ℕ) → n < 2 ^ 64 → number_of_digits (decimal n) ≡ Some n

-- a field that reads as a number is that number as it is printed, after zeros
abbrev pub NoOtherNumberLaw : Type 0
NoOtherNumberLaw = (field : List ℕ) (n : ℕ) → number_of_digits field ≡ Some n
    → (n < 2 ^ 64) × ((zeros : ℕ) × (field ≡ replicate zeros 48 ++ decimal n))

-- the word of a majority reads as that majority
abbrev pub MajorityLaw : Type 0
MajorityLaw = (m : Majority) → majority_of (word_of_majority m) ≡ Some m

-- no other field reads as a majority
abbrev pub OneWordLaw : Type 0
OneWordLaw = (m : Majority) (field : List ℕ) → majority_of field ≡ Some m → field ≡ word_of_majority m

-- the text of a record with these fields, any of them quoted, is one record, which reads as this
abbrev pub ReadsBack : {A : Type 0} → (Row → Option A) → Row → A → Type 0
ReadsBack read row a = (fields : List Field) → bytes_of fields ≡ row
    → map read (records default_config (row_text fields)) ≡ Some a ∷ []

-- each request of a script, written and read back, is itself
abbrev pub RequestLaw : Type 0
RequestLaw = (request : Request) → IsRequest request → ReadsBack request_of (request_row request) request

-- each member
abbrev pub MemberLaw : Type 0
MemberLaw = (member : List ℕ × ℕ) → IsMember member → ReadsBack member_of (member_row member) member

-- the text of an input with at most MAX_MEMBERS members and any script of requests, any of its fields quoted, opens
-- with these members, and its script has the records of these requests
abbrev pub InputLaw : Type 0
InputLaw = (members : Opening) (requests : List Request) (input : List (List Field)) → All IsMember members
    → All IsRequest requests → length members ≤ MAX_MEMBERS
    → map bytes_of input ≡ written_rows members (map request_row requests)
    → preamble_of (records default_config (strip_bom (rows_text input)))
    ≡ Ok (members, length members + 3, map request_row requests)

-- a reading of a sheet by a numbered reader
pub record IsReading (reader : ℕ) (words : List ℕ) : Type 0 where
  pub number : reader < 2 ^ 64
  pub size : length words ≡ SHEET_WORDS
  pub sheet : IsSheet words

-- the lines of two readings are equal only if the readings are: the reader, the majority and the sheet
abbrev pub ReadingLaw : Type 0
ReadingLaw = (r s : ℕ) (m n : Majority) (words others : List ℕ) → IsReading r words → IsReading s others
    → reading_lines r m words ≡ reading_lines s n others → (r ≡ s) × (m ≡ n) × (words ≡ others)
