-- The kinds of commands: the table of their words, numbers and forms, and a command as its kind and its parts.
use Rattle.std.specs.Prelude.{ℕ, List, [], ◌∷◌, Option, Some, None, ◌==◌, codes, find}
use Rattle.std.specs.Str.{bytes_eq}
use Rattle.council_core.specs.declared.commands.Command.{Command}
use Rattle.council_core.specs.declared.commands.Command.TheVariants.{Open, Close, Move, SetVotes, Suspend, Restore}
use Rattle.council_core.specs.declared.commands.Command.TheVariants.{Admit, Withdraw}
use Rattle.council_core.specs.declared.kinds.CommandKind.{CommandKind}
use Rattle.council_core.specs.declared.kinds.CommandKind.TheVariants as kind
use Rattle.council_core.specs.declared.kinds.Form.{Form}
use Rattle.council_core.specs.declared.kinds.Form.TheVariants as form
use Rattle.council_core.specs.declared.kinds.Parts.{Parts}
use Rattle.council_core.specs.declared.kinds.Parts.TheVariants.{Chair, Member, Seat, Votes}

-- each kind, once
abbrev pub every_kind : List CommandKind
every_kind = kind.Open ∷ kind.Close ∷ kind.Move ∷ kind.SetVotes ∷ kind.Suspend ∷ kind.Restore ∷ kind.Admit
    ∷ kind.Withdraw ∷ []

-- the number of a kind for a caller in C, its word in a script, and the form of its parts
abbrev pub row_of_kind : CommandKind → ℕ × List ℕ × Form
row_of_kind kind.Open = (0, codes "open", form.Chair)
row_of_kind kind.Close = (1, codes "close", form.Chair)
row_of_kind kind.Move = (2, codes "move", form.Seat)
row_of_kind kind.SetVotes = (3, codes "votes", form.Votes)
row_of_kind kind.Suspend = (4, codes "suspend", form.Member)
row_of_kind kind.Restore = (5, codes "restore", form.Member)
row_of_kind kind.Admit = (6, codes "admit", form.Votes)
row_of_kind kind.Withdraw = (7, codes "withdraw", form.Member)

abbrev pub number_of_kind : CommandKind → ℕ
number_of_kind k = (row_of_kind k).0

abbrev pub word_of_kind : CommandKind → List ℕ
word_of_kind k = (row_of_kind k).1

abbrev pub form_of_kind : CommandKind → Form
form_of_kind k = (row_of_kind k).2

-- the kind with this number
abbrev pub kind_numbered : ℕ → Option CommandKind
kind_numbered number = find (λ k. number_of_kind k == number) every_kind

-- the kind with this word
abbrev pub kind_of_word : List ℕ → Option CommandKind
kind_of_word word = find (λ k. bytes_eq word (word_of_kind k)) every_kind

-- the form of parts
abbrev pub form_of_parts : Parts → Form
form_of_parts (Chair chair) = form.Chair
form_of_parts (Member code) = form.Member
form_of_parts (Seat code to) = form.Seat
form_of_parts (Votes code votes) = form.Votes

-- the command of a kind with these parts, if they are in the kind's form
abbrev pub command_of_parts : CommandKind → Parts → Option Command
command_of_parts kind.Open (Chair chair) = Some (Open chair)
command_of_parts kind.Close (Chair chair) = Some (Close chair)
command_of_parts kind.Move (Seat code to) = Some (Move code to)
command_of_parts kind.SetVotes (Votes code votes) = Some (SetVotes code votes)
command_of_parts kind.Suspend (Member code) = Some (Suspend code)
command_of_parts kind.Restore (Member code) = Some (Restore code)
command_of_parts kind.Admit (Votes code votes) = Some (Admit code votes)
command_of_parts kind.Withdraw (Member code) = Some (Withdraw code)
command_of_parts _ _ = None

-- a command as its kind and its parts
abbrev pub parts_of_command : Command → CommandKind × Parts
parts_of_command (Open chair) = (kind.Open, Chair chair)
parts_of_command (Close chair) = (kind.Close, Chair chair)
parts_of_command (Move code to) = (kind.Move, Seat code to)
parts_of_command (SetVotes code votes) = (kind.SetVotes, Votes code votes)
parts_of_command (Suspend code) = (kind.Suspend, Member code)
parts_of_command (Restore code) = (kind.Restore, Member code)
parts_of_command (Admit code votes) = (kind.Admit, Votes code votes)
parts_of_command (Withdraw code) = (kind.Withdraw, Member code)
