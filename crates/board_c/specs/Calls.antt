-- The replies of a handle's calls: those of the register's own definitions.
use Rattle.std.specs.Prelude.{◌≡◌, ℕ, ◌==◌, ◌⊎◌, if◌then◌else◌, List, [], length, Option, None, Some, Result, Ok, Err, ⊤, slice_get, option_map}
use Rattle.std.specs.Option.{ok_or}
use Rattle.council_core.specs.Members.{row_of}
use Rattle.council_core.specs.Refusals.{code_of}
use Rattle.council_core.specs.Rolls.{Opening}
use Rattle.council_core.specs.Ledgers.{start_verdict, verdict_of, ledger_with, roll_of}
use Rattle.council_core.specs.Published.{sequential_as_of}
use Rattle.council_core.specs.Sequential.{Sequential}
use Rattle.council_core.specs.declared.commands.Command.{Command}
use Rattle.council_core.specs.declared.refusals.Refusal.{Refusal}
use Rattle.council_core.specs.declared.refusals.Refusal.TheVariants.{BadRecord, BadIndex, NoRegister, OutOfMemory}
use Rattle.majority_rule.specs.Majorities.{majority_numbered}
use Rattle.c_values.specs.Given.{command_as, entry_as, given_command, given_opening, row_as}
use Rattle.c_values.specs.declared.commands.BoardCommand.{BoardCommand}
use Rattle.c_values.specs.declared.entries.BoardEntry.{BoardEntry}
use Rattle.c_values.specs.declared.entries.BoardMemberRow.{BoardMemberRow}
use Rattle.board_c.specs.Lending.{with_register}
use Rattle.board_c.specs.declared.TheConstants.{DONE}
use Rattle.board_c.specs.declared.register.handles.BoardRegister.{BoardRegister}
use Rattle.board_c.specs.declared.register.handles.TheConstants.{LIVE}

-- the handle's register, or None for a handle without one
abbrev pub register_in : BoardRegister → Option Sequential
register_in h = if h.state == LIVE then Some h.register else None

-- the number of a refusal, and DONE for none
abbrev pub reply_number : Result ⊤ Refusal → ℕ
reply_number (Ok _) = DONE
reply_number (Err why) = code_of why

-- the answer is the reply's number; where the reply is Ok it may be that of out of memory
abbrev pub Answers : Result ⊤ Refusal → ℕ → Type 0
Answers (Ok _) answer = (answer ≡ DONE) ⊎ (answer ≡ code_of OutOfMemory)
Answers (Err why) answer = answer ≡ code_of why

-- the reply to a start: the refusal of an entry, or else that of the register
abbrev pub start_reply : Result Opening Refusal → ℕ → Result ⊤ Refusal
start_reply (Ok opening) limit = start_verdict opening limit
start_reply (Err why) limit = Err why

-- a register of the members that entries give, with an empty journal
abbrev pub Begins : List BoardEntry → ℕ → Sequential → Type 0
Begins entries limit s = (opening : Opening) × (given_opening entries ≡ Ok opening)
    × (start_verdict opening limit ≡ Ok tt)
    × (s ≡ record { ledger = record { opening = opening; journal = []; limit = limit }; published = 0 })

-- the handle has such a register
abbrev pub IsStarted : List BoardEntry → ℕ → BoardRegister → Type 0
IsStarted entries limit h = (s : Sequential) × (register_in h ≡ Some s) × Begins entries limit s

-- the number of the refusal of a start
abbrev pub IsRefusedStart : List BoardEntry → ℕ → ℕ → Type 0
IsRefusedStart entries limit answer = (why : Refusal) × (answer ≡ code_of why)
    × ((why ≡ OutOfMemory) ⊎ (start_reply (given_opening entries) limit ≡ Err why))

-- the reply to a command: the refusal of a handle without a register, or else of a struct that gives
-- no command, or else the register's
abbrev pub command_reply : Option Sequential → Result Command Refusal → Result ⊤ Refusal
command_reply None command = Err NoRegister
command_reply (Some s) (Ok command) = verdict_of s.ledger command
command_reply (Some s) (Err why) = Err why

abbrev pub reply : BoardRegister → BoardCommand → Result ⊤ Refusal
reply h c = command_reply (register_in h) (given_command c)

-- the register with one more accepted command, of which nothing is published
abbrev pub AcceptsAs : Sequential → Sequential → BoardCommand → ℕ → Type 0
AcceptsAs old new c accepted = (command : Command) × (given_command c ≡ Ok command)
    × (new ≡ record old { ledger = ledger_with old.ledger command }) × (accepted ≡ length new.ledger.journal)

-- the handle's register has accepted the command, and nothing else of the handle has changed
abbrev pub HasAccepted : BoardRegister → BoardRegister → BoardCommand → ℕ → Type 0
HasAccepted old new c accepted =
    (s : Sequential) × (register_in new ≡ Some s) × (new ≡ with_register old s) × AcceptsAs old.register s c accepted

-- the register with all accepted commands published
abbrev pub all_published : Sequential → Sequential
all_published s = record s { published = length s.ledger.journal }

-- the row of the member at this index, if the register has as many members
abbrev pub row_at : Sequential → ℕ → Option BoardMemberRow
row_at s i = option_map row_as (option_map row_of (slice_get (roll_of s.ledger).members i))

-- the member at this index among those with which the register started
abbrev pub opening_entry : Sequential → ℕ → Option BoardEntry
opening_entry s i = option_map entry_as (slice_get s.ledger.opening i)

-- the command at this index of the journal
abbrev pub command_at : Sequential → ℕ → Option Command
command_at s i = slice_get s.ledger.journal i

-- the struct is the command's, and gives it
abbrev pub IsStructOf : Command → BoardCommand → Type 0
IsStructOf command c = (c ≡ command_as command) × (given_command c ≡ Ok command)

-- the handle's register, or the refusal of a handle without one
abbrev pub live_register : BoardRegister → Result Sequential Refusal
live_register h = ok_or (register_in h) NoRegister

-- what the register has at an index, or the refusal of an index without an item
abbrev pub at_index : {A : Type 0} → (Sequential → ℕ → Option A) → ℕ → Result Sequential Refusal → Result A Refusal
at_index item i (Ok s) = ok_or (item s i) BadIndex
at_index item i (Err why) = Err why

-- what is to be counted by the majority with this number, or the refusal of a number that is no
-- majority's
abbrev pub by_majority : {A : Type 0} → ℕ → Result A Refusal → Result A Refusal
by_majority number (Ok a) = ok_or (option_map (λ m. a) (majority_numbered number)) BadRecord
by_majority number (Err why) = Err why

-- the answer is DONE, and `holds` of what was found says what is written; or the answer is the
-- refusal's number, and nothing is written
abbrev pub Sets : {A B : Type 0} → Result B Refusal → ℕ → A → A → (B → Type 0) → Type 0
Sets (Ok found) answer old new holds = (answer ≡ DONE) × holds found
Sets (Err why) answer old new holds = (answer ≡ code_of why) × (new ≡ old)

-- the handle has a copy of the register after its first commands
abbrev pub IsCopied : Option Sequential → ℕ → BoardRegister → Type 0
IsCopied None accepted into = ⊥
IsCopied (Some s) accepted into = register_in into ≡ Some (sequential_as_of s accepted)

-- the answer of a copy that was made, or could not be
abbrev pub AnswersCopy : Option Sequential → ℕ → Type 0
AnswersCopy None answer = answer ≡ code_of NoRegister
AnswersCopy (Some s) answer = (answer ≡ DONE) ⊎ (answer ≡ code_of OutOfMemory)
