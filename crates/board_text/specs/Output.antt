-- The text that a run has written, by its result.
use Rattle.std.specs.Prelude.{◌≡◌, ◌≤◌, ℕ, true, length, take, ◌++◌, ◌⊎◌, List, Option}
use Rattle.std.specs.Prelude.{Some, None, Result, Ok, Err}
use Rattle.std.specs.Io.KnownBytes.{Appends}
use Rattle.council_core.specs.Ledgers.{Ledger, start_verdict}
use Rattle.council_core.specs.Rolls.{Opening}
use Rattle.council_core.specs.declared.refusals.Refusal.{Refusal}
use Rattle.council_core.specs.declared.refusals.Refusal.TheVariants as refusal
use Rattle.board_text.specs.declared.bounds.Limits.{Limits}
use Rattle.board_text.specs.Lines.{LineBytes, fault_line}
use Rattle.board_text.specs.OutputStates.{OutputState}
use Rattle.board_text.specs.Text.{Run, fault_at, line_text, ledger_at_start, text_of}
use Rattle.board_text.specs.declared.faults.Fault.{Fault}
use Rattle.board_text.specs.declared.stops.Stop.{Stop}
use Rattle.board_text.specs.declared.stops.Stop.TheVariants as stop

-- the first list is a prefix of the second
abbrev pub IsPrefixOf : {A : Type 0} → List A → List A → Type 0
IsPrefixOf {A} list longer = (rest : List A) × (longer ≡ list ++ rest)

-- a prefix of the text was appended
abbrev pub AppendsFront : Option (List ℕ) → Option (List ℕ) → List ℕ → Type 0
AppendsFront old new text = (front : List ℕ) × IsPrefixOf front text × Appends old new front

-- `Ok`: the whole text was appended. WriteFault, the only error: a prefix of it was appended
abbrev pub Writes : Option (List ℕ) → Option (List ℕ) → Result (Unit {0}) Stop → List ℕ → Type 0
Writes old new (Ok _) text = Appends old new text
Writes old new (Err e) text = (e ≡ stop.WriteFault) × AppendsFront old new text

-- one write. `Ok n`: the first n bytes of the text were appended. WriteFault, the only error: a
-- prefix of it was appended
abbrev pub WritesSome : Option (List ℕ) → Option (List ℕ) → Result ℕ Stop → List ℕ → Type 0
WritesSome old new (Ok n) text = (n ≤ length text) × Appends old new (take n text)
WritesSome old new (Err e) text = (e ≡ stop.WriteFault) × AppendsFront old new text

-- a prefix of these lines was appended
abbrev pub AppendsLines : Option (List ℕ) → Option (List ℕ) → List LineBytes → Type 0
AppendsLines old new lines = (front : List LineBytes) × IsPrefixOf front lines × Appends old new (text_of front)

-- a run that stopped has written this, before the line of its fault: without memory or after a failed read a prefix of
-- its lines, each whole; after a failed write a prefix of their text; at any other fault, which is the run's own, all
-- of its lines
abbrev pub WritesUntilStop : Option (List ℕ) → Option (List ℕ) → Stop → Run → Type 0
WritesUntilStop old new stop.OutOfMemory run = AppendsLines old new run.lines
WritesUntilStop old new stop.ReadFault run = AppendsLines old new run.lines
WritesUntilStop old new stop.WriteFault run = AppendsFront old new (text_of run.lines)
WritesUntilStop old new (stop.Fault f) run = (run.end ≡ Some f) × Appends old new (text_of run.lines)

-- a run has written this, before the line of a fault: all of its lines, if no fault ends it, or what it writes until it
-- stops
abbrev pub WritesRun : {A : Type 0} → Option (List ℕ) → Option (List ℕ) → Result A Stop → Run → Type 0
WritesRun old new (Ok _) run = (run.end ≡ None) × Appends old new (text_of run.lines)
WritesRun old new (Err e) run = WritesUntilStop old new e run

-- out of memory, or WriteFault after a write of this output failed
abbrev pub IsMemoryOrWrite : OutputState → Stop → Type 0
IsMemoryOrWrite s e = (e ≡ stop.OutOfMemory) ⊎ ((e ≡ stop.WriteFault) × (s.failed ≡ true))

-- the error of a read of the input: out of memory, a failed read, or the fault that the definition
-- gives
abbrev pub StopsReading : {A : Type 0} → Stop → Result A Fault → Type 0
StopsReading stop.OutOfMemory spec = Unit {0}
StopsReading stop.ReadFault spec = Unit {0}
StopsReading stop.WriteFault spec = ⊥
StopsReading (stop.Fault f) spec = spec ≡ Err f

-- what was read of `all`: all of it, also where its records have a fault, or a prefix where memory ran out or a device
-- failed
abbrev pub ReadTo : {T A : Type 0} → Result T Stop → List A → List A → Type 0
ReadTo (Ok _) got all = got ≡ all
ReadTo (Err (stop.Fault f)) got all = got ≡ all
ReadTo (Err stop.OutOfMemory) got all = IsPrefixOf got all
ReadTo (Err stop.ReadFault) got all = IsPrefixOf got all
ReadTo (Err stop.WriteFault) got all = IsPrefixOf got all

-- the result of starting a register over these members: the definition's, or out of memory
abbrev pub Starts : Limits → Opening → Result Ledger Stop → Type 0
Starts lim members (Ok ledger) = (start_verdict members lim.journal ≡ Ok tt) × (ledger ≡ ledger_at_start lim members)
Starts lim members (Err stop.OutOfMemory) = Unit {0}
Starts lim members (Err stop.ReadFault) = ⊥
Starts lim members (Err stop.WriteFault) = ⊥
Starts lim members (Err (stop.Fault f)) = (why : Refusal) × (start_verdict members lim.journal ≡ Err why)
    × (f ≡ fault_at why 0)

-- the stop of a refusal that ends a run: out of memory, or a fault at 0
abbrev pub stop_of : Refusal → Stop
stop_of refusal.OutOfMemory = stop.OutOfMemory
stop_of why = stop.Fault (fault_at why 0)

-- the fault whose line is to be written; none after a failed write
abbrev pub fault_of : Stop → Option Fault
fault_of stop.OutOfMemory = Some (fault_at refusal.OutOfMemory 0)
fault_of stop.ReadFault = Some (fault_at refusal.ReadFault 0)
fault_of stop.WriteFault = None
fault_of (stop.Fault f) = Some f

-- out of memory or a failed read: a fault that is possible at any time and names no record
abbrev pub IsBroken : Fault → Type 0
IsBroken f = (f ≡ fault_at refusal.OutOfMemory 0) ⊎ (f ≡ fault_at refusal.ReadFault 0)

-- the line of the fault was written, or a write failed
abbrev pub Ends : OutputState → OutputState → Fault → Fault → Type 0
Ends old new f result =
    ((result ≡ f) × Appends old.contents new.contents (line_text (fault_line f)))
    ⊎ ((result ≡ fault_at refusal.WriteFault 0) × (new.failed ≡ true)
    × AppendsFront old.contents new.contents (line_text (fault_line f)))

-- the end of a run that stopped, by the fault of its stop
abbrev pub EndsStopped : {A : Type 0} → OutputState → OutputState → Option Fault → Result A Fault → Type 0
EndsStopped old new f (Ok a) = ⊥
EndsStopped old new None (Err g) = (g ≡ fault_at refusal.WriteFault 0) × (new ≡ old)
EndsStopped old new (Some f) (Err g) = Ends old new f g

-- the end of a run: its value, and nothing more is written; or its fault, and that fault's line
abbrev pub EndsRun : {A : Type 0} → OutputState → OutputState → Result A Stop → Result A Fault → Type 0
EndsRun old new (Ok a) result = (result ≡ Ok a) × (new ≡ old)
EndsRun old new (Err e) result = EndsStopped old new (fault_of e) result

-- the limits are out of range: the fault is BadLimit, or WriteFault if its line could not be
-- written
abbrev pub IsBadLimit : {A : Type 0} → Result A Fault → Type 0
IsBadLimit r = (r ≡ Err (fault_at refusal.BadLimit 0)) ⊎ (r ≡ Err (fault_at refusal.WriteFault 0))
