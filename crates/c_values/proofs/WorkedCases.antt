-- Worked cases of the structs of a caller in C, and what they refuse.
use Rattle.std.proofs.Common.{◌≡◌, ℕ, List, [], ◌∷◌, None, Some, Ok, Err, true, false, refl}
use Rattle.council_core.specs.declared.commands.Command.TheVariants.{Admit, Close, Move, Open, Restore, SetVotes, Suspend, Withdraw}
use Rattle.council_core.specs.declared.refusals.Refusal.TheVariants.{BadChair, BadMember, BadRecord, VotesTooLarge}
use Rattle.c_values.specs.Given.{command_as, fields_with, given_command, given_entry, given_opening, given_seat, no_code, row_as}
use Rattle.c_values.specs.declared.entries.BoardEntry.{BoardEntry}

-- AAA, and what is no code: a letter too many, a small letter
abbrev aaa : List ℕ
aaa = 65 ∷ 65 ∷ 65 ∷ 0 ∷ []

abbrev four_letters : List ℕ
four_letters = 65 ∷ 65 ∷ 65 ∷ 65 ∷ []

abbrev small_letter : List ℕ
small_letter = 65 ∷ 65 ∷ 97 ∷ 0 ∷ []

abbrev entry : List ℕ → ℕ → BoardEntry
entry code votes = record { code = code; votes = votes }

-- chair 2 is opened, whatever the parts that the kind doesn't have
pub opens : (given_command (fields_with 0 aaa 2 7) ≡ Ok (Open 2)) × (given_command (fields_with 0 [] 32 0) ≡ Ok (Open 32))
opens = (refl, refl)

-- the first chair and the last, opened, closed and moved to
pub first_and_last : (given_command (fields_with 0 aaa 1 0) ≡ Ok (Open 1)) × (given_command (fields_with 1 aaa 32 0) ≡ Ok (Close 32))
    × (given_seat 1 ≡ Ok (Some 1)) × (given_seat 32 ≡ Ok (Some 32))
first_and_last = (refl, refl, refl, refl)

-- the kinds that have a code alone, and an admission
pub kinds : (given_command (fields_with 4 aaa 33 7) ≡ Ok (Suspend (65 ∷ 65 ∷ 65 ∷ []))) × (given_command (fields_with 5 aaa 33 7) ≡ Ok (Restore (65 ∷ 65 ∷ 65 ∷ [])))
    × (given_command (fields_with 6 aaa 33 0) ≡ Ok (Admit (65 ∷ 65 ∷ 65 ∷ []) 0)) × (given_command (fields_with 7 aaa 33 7) ≡ Ok (Withdraw (65 ∷ 65 ∷ 65 ∷ [])))
kinds = (refl, refl, refl, refl)

-- no chair has number 0 or 33; to chair 0 is to none
pub chairs : (given_command (fields_with 0 aaa 0 0) ≡ Err BadChair) × (given_command (fields_with 1 aaa 33 0) ≡ Err BadChair)
    × (given_command (fields_with 2 aaa 0 0) ≡ Ok (Move (65 ∷ 65 ∷ 65 ∷ []) None)) × (given_seat 33 ≡ Err BadChair)
chairs = (refl, refl, refl, refl)

-- a code comes before a chair and votes, which are at most 2^40
pub refused_in_order : (given_command (fields_with 2 four_letters 33 0) ≡ Err BadMember) × (given_command (fields_with 3 small_letter 0 1099511627777) ≡ Err BadMember)
    × (given_command (fields_with 6 aaa 0 1099511627777) ≡ Err VotesTooLarge) × (given_command (fields_with 3 aaa 0 1099511627776) ≡ Ok (SetVotes (65 ∷ 65 ∷ 65 ∷ []) 1099511627776))
refused_in_order = (refl, refl, refl, refl)

-- a script's other items are no commands, and no other kind is
pub no_commands : (given_command (fields_with 8 aaa 1 0) ≡ Err BadRecord) × (given_command (fields_with 9 aaa 1 0) ≡ Err BadRecord) × (given_command (fields_with 4294967295 aaa 1 0) ≡ Err BadRecord)
no_commands = (refl, refl, refl)

-- the first entry that is no member refuses the opening
pub openings : (given_opening (entry aaa 5 ∷ entry small_letter 1 ∷ entry aaa 1099511627777 ∷ []) ≡ Err BadMember)
    × (given_opening (entry aaa 5 ∷ []) ≡ Ok ((65 ∷ 65 ∷ 65 ∷ [], 5) ∷ [])) × (given_entry (entry aaa 1099511627777) ≡ Err VotesTooLarge)
openings = (refl, refl, refl)

-- each kind as a caller gets it
pub kinds_written : (command_as (Open 32) ≡ fields_with 0 no_code 32 0) × (command_as (Close 1) ≡ fields_with 1 no_code 1 0)
    × (command_as (SetVotes (65 ∷ 65 ∷ 65 ∷ []) 9) ≡ fields_with 3 aaa 0 9) × (command_as (Suspend (65 ∷ 65 ∷ 65 ∷ [])) ≡ fields_with 4 aaa 0 0)
    × (command_as (Restore (65 ∷ 65 ∷ 65 ∷ [])) ≡ fields_with 5 aaa 0 0) × (command_as (Withdraw (65 ∷ 65 ∷ 65 ∷ [])) ≡ fields_with 7 aaa 0 0)
kinds_written = (refl, refl, refl, refl, refl, refl)

-- the row of a member that sits in a chair and is not suspended
pub seated_row : let row = row_as (record { code = 65 ∷ 65 ∷ 65 ∷ []; votes = 9; chair = Some 4; suspended = false }) in
    (row.chair ≡ 4) × (row.suspended ≡ 0) × (row.votes ≡ 9) × (row.code ≡ aaa)
seated_row = (refl, refl, refl, refl)

-- a command and a row as a caller gets them
pub written : (command_as (Admit (65 ∷ 65 ∷ 65 ∷ []) 9) ≡ fields_with 6 aaa 0 9) × (command_as (Move (65 ∷ 65 ∷ 65 ∷ []) (Some 3)) ≡ fields_with 2 aaa 3 0)
    × ((row_as (record { code = 65 ∷ 65 ∷ 65 ∷ []; votes = 9; chair = None; suspended = true })).chair ≡ 0)
    × ((row_as (record { code = 65 ∷ 65 ∷ 65 ∷ []; votes = 9; chair = Some 4; suspended = true })).suspended ≡ 1)
written = (refl, refl, refl, refl)
