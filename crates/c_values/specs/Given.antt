-- What the structs that a caller in C gives mean (`given_`), and the structs that it gets (`_as`): a
-- command, a member that starts, a member's row.
use Rattle.std.specs.Prelude.{ℕ, ◌==◌, ◌&&◌, if◌then◌else◌, nat_le, List, [], ◌∷◌, ◌++◌, take, slice_index}
use Rattle.std.specs.Prelude.{Option, None, Some, Result, Ok, Err, cond}
use Rattle.std.specs.Option.{ok_or, option_map_or}
use Rattle.std.specs.Result.{result_flatten}
use Rattle.council_core.specs.Codes.{is_code}
use Rattle.council_core.specs.Commands.{command_of_parts, form_of_kind, kind_numbered, number_of_kind, parts_of_command}
use Rattle.council_core.specs.Rolls.{Opening}
use Rattle.council_core.specs.declared.limits.TheConstants.{CHAIRS, MAX_VOTES}
use Rattle.council_core.specs.declared.refusals.Refusal.{Refusal}
use Rattle.council_core.specs.declared.refusals.Refusal.TheVariants.{BadChair, BadMember, BadRecord, VotesTooLarge}
use Rattle.council_core.specs.declared.commands.Command.{Command}
use Rattle.council_core.specs.declared.commands.MemberRow.{MemberRow}
use Rattle.council_core.specs.declared.kinds.CommandKind.{CommandKind}
use Rattle.council_core.specs.declared.kinds.Form.{Form}
use Rattle.council_core.specs.declared.kinds.Form.TheVariants as form
use Rattle.council_core.specs.declared.kinds.Parts.{Parts}
use Rattle.council_core.specs.declared.kinds.Parts.TheVariants.{Chair, Member, Seat, Votes}
use Rattle.c_values.specs.declared.commands.BoardCommand.{BoardCommand}
use Rattle.c_values.specs.declared.entries.BoardEntry.{BoardEntry}
use Rattle.c_values.specs.declared.entries.BoardMemberRow.{BoardMemberRow}

abbrev pub result_map : {A B : Type 0} → (A → B) → Result A Refusal → Result B Refusal
result_map f (Ok a) = Ok (f a)
result_map f (Err e) = Err e

-- a value of two results, or the first error
abbrev pub both_of : {A B C : Type 0} → (A → B → C) → Result A Refusal → Result B Refusal → Result C Refusal
both_of f (Ok a) (Ok b) = Ok (f a b)
both_of f (Ok a) (Err e) = Err e
both_of f (Err e) r = Err e

-- the letters of four bytes: the first three if the fourth is 0, else all four, which are no code
abbrev pub letters_of : List ℕ → List ℕ
letters_of bytes = if slice_index bytes 3 == 0 then take 3 bytes else bytes

-- the code that four bytes give: three capitals and a 0
abbrev pub given_code : List ℕ → Result (List ℕ) Refusal
given_code bytes = if is_code (letters_of bytes) then Ok (letters_of bytes) else Err BadMember

-- the chair with this number
abbrev pub given_chair : ℕ → Result ℕ Refusal
given_chair n = if nat_le 1 n && nat_le n CHAIRS then Ok n else Err BadChair

-- the chair with this number, or none for 0
abbrev pub given_seat : ℕ → Result (Option ℕ) Refusal
given_seat n = if n == 0 then Ok None else result_map Some (given_chair n)

-- this number of votes
abbrev pub given_votes : ℕ → Result ℕ Refusal
given_votes n = if nat_le n MAX_VOTES then Ok n else Err VotesTooLarge

-- the parts in this form, or the refusal of the first that is out of range
abbrev pub given_parts : Form → BoardCommand → Result Parts Refusal
given_parts form.Chair c = result_map Chair (given_chair c.chair)
given_parts form.Member c = result_map Member (given_code c.code)
given_parts form.Seat c = both_of Seat (given_code c.code) (given_seat c.chair)
given_parts form.Votes c = both_of Votes (given_code c.code) (given_votes c.votes)

-- the command of a kind and its parts, or the refusal of the first that is none
abbrev pub command_from : Result CommandKind Refusal → BoardCommand → Result Command Refusal
command_from (Ok kind) c =
    result_flatten
    (result_map (λ parts. ok_or (command_of_parts kind parts) BadRecord) (given_parts (form_of_kind kind) c))
command_from (Err why) c = Err why

-- the command that a struct gives, or its refusal
abbrev pub given_command : BoardCommand → Result Command Refusal
given_command c = command_from (ok_or (kind_numbered c.kind) BadRecord) c

-- the member that an entry gives
abbrev pub given_entry : BoardEntry → Result (List ℕ × ℕ) Refusal
given_entry e = both_of (λ code votes. (code, votes)) (given_code e.code) (given_votes e.votes)

-- the opening members, or the refusal of the first entry that is not one
abbrev pub given_opening : List BoardEntry → Result Opening Refusal
given_opening [] = Ok []
given_opening (e ∷ es) = both_of (λ m ms. m ∷ ms) (given_entry e) (given_opening es)

-- a code as a caller gets it: its letters, then 0
abbrev pub ended_by_zero : List ℕ → List ℕ
ended_by_zero code = code ++ 0 ∷ []

abbrev pub no_code : List ℕ
no_code = 0 ∷ 0 ∷ 0 ∷ 0 ∷ []

-- the number of a chair, or 0 for none
abbrev pub seat_number : Option ℕ → ℕ
seat_number to = option_map_or (λ c. c) to 0

-- a struct with these fields
abbrev pub fields_with : ℕ → List ℕ → ℕ → ℕ → BoardCommand
fields_with kind code chair votes = record { kind = kind; code = code; chair = chair; votes = votes }

-- a struct of this kind with these parts; those that it doesn't have are 0
abbrev pub struct_with : ℕ → Parts → BoardCommand
struct_with kind (Chair chair) = fields_with kind no_code chair 0
struct_with kind (Member code) = fields_with kind (ended_by_zero code) 0 0
struct_with kind (Seat code to) = fields_with kind (ended_by_zero code) (seat_number to) 0
struct_with kind (Votes code votes) = fields_with kind (ended_by_zero code) 0 votes

-- a command as a caller gets it
abbrev pub command_as : Command → BoardCommand
command_as command = struct_with (number_of_kind (parts_of_command command).0) (parts_of_command command).1

-- a member and its votes as a caller gets them
abbrev pub entry_as : List ℕ × ℕ → BoardEntry
entry_as m = record { code = ended_by_zero m.0; votes = m.1 }

-- a member's row as a caller gets it: chair 0 is none, and suspended is 0 or 1
abbrev pub row_as : MemberRow → BoardMemberRow
row_as m = record {
  code = ended_by_zero m.code;
  suspended = cond m.suspended 1 0;
  chair = seat_number m.chair;
  votes = m.votes;
}
