-- How an input is written: the fields of each record, and its text, in which any field may be quoted.
use Rattle.std.specs.Prelude.{ℕ, ◌≤◌, ◌<◌, ◌^◌, List, [], ◌∷◌, ◌++◌, map, Bool, true, false, Option, Some, None}
use Rattle.std.specs.Prelude.{IfSome, codes, decimal}
use Rattle.std.specs.List.{flat_map}
use Rattle.council_core.specs.Codes.{IsCode}
use Rattle.council_core.specs.Commands.{parts_of_command, word_of_kind}
use Rattle.council_core.specs.declared.calls.Order.TheVariants as order
use Rattle.council_core.specs.declared.commands.Command.{Command}
use Rattle.council_core.specs.declared.kinds.Parts.{Parts}
use Rattle.council_core.specs.declared.kinds.Parts.TheVariants.{Chair, Member, Seat, Votes}
use Rattle.council_core.specs.declared.limits.TheConstants.{CHAIRS, MAX_VOTES}
use Rattle.board_text.specs.Requests.{Row}
use Rattle.majority_rule.specs.Majorities.{word_of_majority}
use Rattle.board_text.specs.declared.requests.Request.{Request}
use Rattle.board_text.specs.declared.requests.Request.TheVariants as ask

-- the field for where a member is moved: the number of a chair, or `none`
abbrev pub target_field : Option ℕ → List ℕ
target_field None = codes "none"
target_field (Some chair) = decimal chair

-- the fields of a command's parts
abbrev pub parts_row : Parts → Row
parts_row (Chair chair) = decimal chair ∷ []
parts_row (Member code) = code ∷ []
parts_row (Seat code to) = code ∷ target_field to ∷ []
parts_row (Votes code votes) = code ∷ decimal votes ∷ []

-- the fields of a command
abbrev pub command_row : Command → Row
command_row command = word_of_kind (parts_of_command command).0 ∷ parts_row (parts_of_command command).1

-- the fields of a request
abbrev pub request_row : Request → Row
request_row (ask.Order (order.Submit command)) = command_row command
request_row (ask.Order order.Publish) = codes "publish" ∷ []
request_row (ask.Read reader m) = codes "read" ∷ decimal reader ∷ word_of_majority m ∷ []

-- the fields of a member
abbrev pub member_row : List ℕ × ℕ → Row
member_row m = m.0 ∷ decimal m.1 ∷ []

-- the header, the first record of an input
abbrev pub header_row : Row
header_row = codes "member" ∷ codes "votes" ∷ []

-- the mark between the members and the script
abbrev pub mark_row : Row
mark_row = codes "script" ∷ []

-- the records of an input with these members and this script
abbrev pub written_rows : List (List ℕ × ℕ) → List Row → List Row
written_rows members script = header_row ∷ map member_row members ++ mark_row ∷ script

-- a chair's number
abbrev pub IsChair : ℕ → Type 0
IsChair c = (1 ≤ c) × (c ≤ CHAIRS)

-- a chair, code and votes in range, as those of each value of the type are
abbrev pub AreParts : Parts → Type 0
AreParts (Chair chair) = IsChair chair
AreParts (Member code) = IsCode code
AreParts (Seat code to) = IsCode code × IfSome to IsChair
AreParts (Votes code votes) = IsCode code × (votes ≤ MAX_VOTES)

-- a command whose parts are in range
abbrev pub IsCommand : Command → Type 0
IsCommand command = AreParts (parts_of_command command).1

-- a request whose command is in range, and whose reader number fits 64 bits
abbrev pub IsRequest : Request → Type 0
IsRequest (ask.Order (order.Submit command)) = IsCommand command
IsRequest (ask.Order order.Publish) = Unit {0}
IsRequest (ask.Read reader m) = reader < 2 ^ 64

-- a member whose code and votes are in range
abbrev pub IsMember : List ℕ × ℕ → Type 0
IsMember m = IsCode m.0 × (m.1 ≤ MAX_VOTES)

-- a field of a record, and whether it is quoted
pub record Field : Type 0 where
  pub bytes : List ℕ
  pub quoted : Bool

-- the fields of a record
abbrev pub bytes_of : List Field → Row
bytes_of fields = map (λ f. f.bytes) fields

-- a field as it is, or between quotes
abbrev pub quoted_as : Bool → List ℕ → List ℕ
quoted_as false bytes = bytes
quoted_as true bytes = 34 ∷ bytes ++ 34 ∷ []

-- the text of a field
abbrev pub field_text : Field → List ℕ
field_text f = quoted_as f.quoted f.bytes

-- the fields after the first, each after a comma, and the line end
abbrev pub fields_text : List Field → List ℕ
fields_text [] = 10 ∷ []
fields_text (f ∷ fs) = 44 ∷ field_text f ++ fields_text fs

-- the text of a record: its fields with commas between them, and a line end
abbrev pub row_text : List Field → List ℕ
row_text [] = 10 ∷ []
row_text (f ∷ fs) = field_text f ++ fields_text fs

-- the text of records, one after another
abbrev pub rows_text : List (List Field) → List ℕ
rows_text rows = flat_map row_text rows
