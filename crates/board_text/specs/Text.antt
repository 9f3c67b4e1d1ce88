-- The text that a run writes and the fault that ends it, as a function of the bytes of its input.
use Rattle.std.specs.Prelude.{ℕ, ◌+◌, ◌&&◌, List, [], ◌∷◌, ◌++◌, Bool, true, Option, Some}
use Rattle.std.specs.Prelude.{None, Result, Ok, Err, ⊤, length, nat_le, nat_lt, if◌then◌else◌}
use Rattle.std.specs.Prelude.{filter_map, is_none, take}
use Rattle.std.specs.List.{after_first, before_first, flat_map, list_any, position_from}
use Rattle.csv.specs.Reading.{default_config, records, strip_bom}
use Rattle.council_core.specs.Ledgers.{Ledger, start_verdict}
use Rattle.council_core.specs.Refusals.{code_of}
use Rattle.council_core.specs.Rolls.{Opening}
use Rattle.council_core.specs.Sequential.{Sequential}
use Rattle.council_core.specs.declared.limits.TheConstants.{MAX_COMMANDS, MAX_MEMBERS}
use Rattle.council_core.specs.declared.refusals.Refusal.{Refusal}
use Rattle.council_core.specs.declared.refusals.Refusal.TheVariants.{BadHeader, BadLimit, BadReader, BadRecord}
use Rattle.council_core.specs.declared.refusals.Refusal.TheVariants.{NoScript, TooLong, TooManyMembers}
use Rattle.board_text.specs.declared.bounds.TheConstants.{READERS}
use Rattle.board_text.specs.Lines.{LineBytes, fault_line}
use Rattle.board_text.specs.Requests.{Row, is_header, is_mark, member_of, request_of}
use Rattle.board_text.specs.declared.bounds.Limits.{Limits}
use Rattle.board_text.specs.declared.faults.Fault.{Fault}
use Rattle.board_text.specs.declared.requests.Request.{Request}
use Rattle.board_text.specs.declared.requests.Request.TheVariants as ask
use Rattle.board_text.specs.declared.input.TheConstants.{INPUT_LIMIT}

-- the limits of a run: readers, and commands in the journal
abbrev pub run_limits : ℕ → ℕ → Limits
run_limits readers journal = record { readers = readers; journal = journal }

-- the lines of a run, each without its line end, and the fault that ended it, if any
pub record Run : Type 0 where
  pub lines : List LineBytes
  pub end : Option Fault

-- the fault of a refusal at a record number, or at 0
abbrev pub fault_at : Refusal → ℕ → Fault
fault_at why number = record { code = code_of why; place = number }

-- a run without lines that ends in this fault
abbrev pub stopped_run : Fault → Run
stopped_run f = record { lines = []; end = Some f }

-- a run of these lines that no fault ends
abbrev pub printed_run : List LineBytes → Run
printed_run ls = record { lines = ls; end = None }

-- a run with these lines before its own
abbrev pub with_lines : List LineBytes → Run → Run
with_lines ls r = record { lines = ls ++ r.lines; end = r.end }

-- a line with its line end
abbrev pub line_text : LineBytes → List ℕ
line_text l = l ++ 10 ∷ []

-- the text of these lines
abbrev pub text_of : List LineBytes → List ℕ
text_of ls = flat_map line_text ls

-- whether the reader number is in range
abbrev pub is_reader : Limits → ℕ → Bool
is_reader lim number = nat_le 1 number && nat_le number lim.readers

-- whether the reader number of a request is in range
abbrev pub is_served : Limits → Request → Bool
is_served lim (ask.Read reader m) = is_reader lim reader
is_served lim (ask.Order o) = true

-- a value that is there and fits; else a record that isn't well formed, or a reader number out of range
abbrev pub valid_or_refused : {A : Type 0} → (A → Bool) → Option A → Result A Refusal
valid_or_refused fits None = Err BadRecord
valid_or_refused fits (Some a) = if fits a then Ok a else Err BadReader

-- the request of a record, if it is well formed and its reader number is in range
abbrev pub request_within : Limits → Row → Result Request Refusal
request_within lim row = valid_or_refused (is_served lim) (request_of row)

-- the contents of the records before the script: the members, the number of the script's first
-- record, and its records
abbrev pub Preamble : Type 0
Preamble = Opening × ℕ × List Row

-- the record is no member's
abbrev pub is_no_member : Row → Bool
is_no_member row = is_none (member_of row)

-- the records before the mark, or all where there is none
abbrev pub before_mark : List Row → List Row
before_mark rows = before_first is_mark rows

-- the fault of the bad record with this number, or else what follows
abbrev pub unless_bad : Option ℕ → Result Preamble Fault → Result Preamble Fault
unless_bad None more = more
unless_bad (Some number) more = Err (fault_at BadRecord number)

-- the members before the mark, and the script after it; the first of these records is number 2
unfoldable pub preamble_after_header : List Row → Result Preamble Fault
preamble_after_header rows =
    unless_bad (position_from is_no_member 2 (take MAX_MEMBERS (before_mark rows)))
    (if nat_lt MAX_MEMBERS (length (before_mark rows)) then Err (fault_at TooManyMembers 0)
    else if list_any is_mark rows
    then Ok (filter_map member_of (before_mark rows), length (before_mark rows) + 3, after_first is_mark rows)
    else Err (fault_at NoScript 0))

-- the members that preamble_after_header reads, also where it then meets a fault: at most MAX_MEMBERS of those before
-- the mark, up to the first record that is no member's
unfoldable pub members_before : List Row → Opening
members_before rows = filter_map member_of (before_first is_no_member (take MAX_MEMBERS (before_mark rows)))

-- the ledger of a register that starts with these members and an empty journal
abbrev pub ledger_at_start : Limits → Opening → Ledger
ledger_at_start lim members = record { opening = members; journal = []; limit = lim.journal }

-- the start of a script: the register, the number of the script's first record, and its records
abbrev pub Started : Type 0
Started = Ledger × ℕ × List Row

-- the start after a preamble, where the register may start, or its refusal
abbrev pub started_with : Limits → Result ⊤ Refusal → Preamble → Result Started Fault
started_with lim (Err why) p = Err (fault_at why 0)
started_with lim (Ok u) p = Ok (ledger_at_start lim p.0, p.1, p.2)

-- the start after a preamble, or its fault, or the refusal of the register
abbrev pub started_after : Limits → Result Preamble Fault → Result Started Fault
started_after lim (Err f) = Err f
started_after lim (Ok p) = started_with lim (start_verdict p.0 lim.journal) p

-- the members and the script of the records of an input, or the first fault before the script
abbrev pub preamble_of : List Row → Result Preamble Fault
preamble_of [] = Err (fault_at BadHeader 0)
preamble_of (r ∷ rs) = if is_header r then preamble_after_header rs else Err (fault_at BadHeader 0)

-- the members of the records of an input, also where they meet a fault
abbrev pub members_in : List Row → Opening
members_in [] = []
members_in (r ∷ rs) = if is_header r then members_before rs else []

-- both limits are in range: readers from 1 to READERS, journal from 1 to MAX_COMMANDS
abbrev pub in_range : Limits → Bool
in_range lim =
    nat_le 1 lim.readers && nat_le lim.readers READERS && nat_le 1 lim.journal && nat_le lim.journal MAX_COMMANDS

-- the start of the script of these bytes, or the fault before it
unfoldable pub started_of : Limits → List ℕ → Result Started Fault
started_of lim bytes =
    if in_range lim
    then if nat_le (length bytes) INPUT_LIMIT
    then started_after lim (preamble_of (records default_config (strip_bom bytes)))
    else Err (fault_at TooLong 0)
    else Err (fault_at BadLimit 0)

-- the sequential register at the start of a replay: no command is published
abbrev pub unpublished_register : Ledger → Sequential
unpublished_register ledger = record { ledger = ledger; published = 0 }

-- the line of the fault that ends a run, if one does
abbrev pub end_lines : Option Fault → List LineBytes
end_lines None = []
end_lines (Some f) = fault_line f ∷ []

-- all bytes that a run writes
abbrev pub output : Run → List ℕ
output run = text_of (run.lines ++ end_lines run.end)
