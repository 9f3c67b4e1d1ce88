-- The meaning of the records of an input.
use Rattle.std.specs.Prelude.{ℕ, List, [], ◌∷◌, Bool, false, ◌&&◌, Option, Some, None, if◌then◌else◌}
use Rattle.std.specs.Prelude.{option_map, codes}
use Rattle.std.specs.Option.{option_and_then, option_or}
use Rattle.std.specs.Str.{bytes_eq}
use Rattle.council_core.specs.Commands.{command_of_parts, form_of_kind, kind_of_word}
use Rattle.council_core.specs.Sequential.{Call, ordered, read}
use Rattle.council_core.specs.declared.calls.Order.TheVariants as order
use Rattle.council_core.specs.declared.commands.Command.{Command}
use Rattle.council_core.specs.declared.kinds.CommandKind.{CommandKind}
use Rattle.council_core.specs.declared.kinds.Form.{Form}
use Rattle.council_core.specs.declared.kinds.Form.TheVariants as form
use Rattle.council_core.specs.declared.kinds.Parts.{Parts}
use Rattle.council_core.specs.declared.kinds.Parts.TheVariants.{Chair, Member, Seat, Votes}
use Rattle.board_text.specs.Numbers.{number_of_digits}
use Rattle.majority_rule.specs.Majorities.{majority_of}
use Rattle.board_text.specs.Words.{pair_of, chair_of, code_of_member, target_chair, votes_of}
use Rattle.board_text.specs.declared.requests.Request.{Request}
use Rattle.board_text.specs.declared.requests.Request.TheVariants as ask

-- a record: its fields
abbrev pub Row : Type 0
Row = List (List ℕ)

-- the record is the header, the first record of an input
abbrev pub is_header : Row → Bool
is_header (a ∷ b ∷ []) = bytes_eq a (codes "member") && bytes_eq b (codes "votes")
is_header _ = false

-- the record is the mark between the members and the script
abbrev pub is_mark : Row → Bool
is_mark (a ∷ []) = bytes_eq a (codes "script")
is_mark _ = false

-- a member and its votes
abbrev pub member_of : Row → Option (List ℕ × ℕ)
member_of (a ∷ b ∷ []) = pair_of (λ code votes. (code, votes)) (code_of_member a) (votes_of b)
member_of _ = None

-- the parts of a command in this form, in the fields after its word
abbrev pub parts_of_fields : Form → Row → Option Parts
parts_of_fields form.Chair (a ∷ []) = option_map Chair (chair_of a)
parts_of_fields form.Member (a ∷ []) = option_map Member (code_of_member a)
parts_of_fields form.Seat (a ∷ b ∷ []) = pair_of Seat (code_of_member a) (target_chair b)
parts_of_fields form.Votes (a ∷ b ∷ []) = pair_of Votes (code_of_member a) (votes_of b)
parts_of_fields _ _ = None

-- the command of a kind with its parts in these fields
abbrev pub command_of_kind : Row → CommandKind → Option Command
command_of_kind fields kind = option_and_then (command_of_parts kind) (parts_of_fields (form_of_kind kind) fields)

-- the command of a record: the word of its kind, then its parts
abbrev pub command_of : Row → Option Command
command_of (word ∷ fields) = option_and_then (command_of_kind fields) (kind_of_word word)
command_of [] = None

-- a reading by a numbered reader at a majority
abbrev pub reading_of : Row → Option Request
reading_of (word ∷ a ∷ b ∷ []) =
    if bytes_eq word (codes "read") then pair_of ask.Read (number_of_digits a) (majority_of b)
    else None
reading_of _ = None

-- the record asks for a publication
abbrev pub is_publish : Row → Bool
is_publish (word ∷ []) = bytes_eq word (codes "publish")
is_publish _ = false

-- the request to submit a command
abbrev pub submission : Command → Request
submission command = ask.Order (order.Submit command)

-- the request of a record in the script of `replay`, if it is well formed
abbrev pub request_of : Row → Option Request
request_of row = if is_publish row then Some (ask.Order order.Publish)
    else option_or (reading_of row) (option_map submission (command_of row))

-- the sequential register's call for a request
abbrev pub call_of : Request → Call
call_of (ask.Order o) = ordered o
call_of (ask.Read r m) = read
