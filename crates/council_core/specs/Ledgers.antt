-- The abstract state of a register: its opening members, the accepted commands, and their limit.
use Rattle.std.specs.Prelude.{ℕ, ◌≤◌, ◌==◌, if◌then◌else◌, List, [], ◌∷◌, ◌++◌, length, take}
use Rattle.std.specs.Prelude.{Result, Ok, Err, ⊤, Bool, false, ◌||◌, nat_lt}
use Rattle.std.specs.List.{list_any}
use Rattle.std.specs.Result.{result_and}
use Rattle.council_core.specs.declared.limits.TheConstants.{MAX_COMMANDS, MAX_MEMBERS}
use Rattle.council_core.specs.Rolls.{Roll, Opening, IsLegal, roll_after, same_code, step, sheet}
use Rattle.council_core.specs.declared.refusals.Refusal.{Refusal}
use Rattle.council_core.specs.declared.refusals.Refusal.TheVariants.{JournalFull, BadLimit, TooManyMembers}
use Rattle.council_core.specs.declared.refusals.Refusal.TheVariants.{DuplicateMember}
use Rattle.council_core.specs.declared.commands.Command.{Command}

pub record Ledger : Type 0 where
  pub opening : Opening
  pub journal : List Command
  pub limit : ℕ

-- the invariant of every register: its journal is legal and within its limit, which is at most
-- MAX_COMMANDS
pub record IsLedger (ledger : Ledger) : Type 0 where
  pub legal : IsLegal ledger.opening ledger.journal
  pub within : length ledger.journal ≤ ledger.limit
  pub small : ledger.limit ≤ MAX_COMMANDS

-- the roll after the journal
abbrev pub roll_of : Ledger → Roll
roll_of l = roll_after l.opening l.journal

-- the sheet after the journal
abbrev pub sheet_of : Ledger → List ℕ
sheet_of l = sheet l.opening l.journal

-- whether one more command fits
abbrev pub room_of : Ledger → Result ⊤ Refusal
room_of l = if length l.journal == l.limit then Err JournalFull else Ok tt

-- the reply to a command, except out of memory: the refusal of the step, or else of a full journal
abbrev pub verdict_of : Ledger → Command → Result ⊤ Refusal
verdict_of l command = result_and (step (roll_of l) command) (room_of l)

-- the ledger with one more accepted command
abbrev pub ledger_with : Ledger → Command → Ledger
ledger_with l command = record l { journal = l.journal ++ command ∷ [] }

-- the ledger after its first `accepted` commands, or as it is if there are no more
abbrev pub ledger_as_of : Ledger → ℕ → Ledger
ledger_as_of l accepted = record l { journal = take accepted l.journal }

-- whether two members have the same code
abbrev pub has_duplicate : Opening → Bool
has_duplicate [] = false
has_duplicate (m ∷ ms) = list_any (λ n. same_code n.0 m.0) ms || has_duplicate ms

-- the reply to a start, except out of memory
abbrev pub start_verdict : Opening → ℕ → Result ⊤ Refusal
start_verdict opening limit =
    if limit == 0 || nat_lt MAX_COMMANDS limit then Err BadLimit
    else (if nat_lt MAX_MEMBERS (length opening) then Err TooManyMembers
    else (if has_duplicate opening then Err DuplicateMember else Ok tt))
