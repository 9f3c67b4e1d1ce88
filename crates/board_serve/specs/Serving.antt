-- The text that `serve` has written, by its result.
use Rattle.std.specs.Prelude.{◌≡◌, ℕ, ◌+◌, ◌⊎◌, Bool, true, false, List, [], ◌∷◌, ◌++◌, Option, Some}
use Rattle.std.specs.Prelude.{None, Result, Ok, Err, length, map}
use Rattle.std.specs.Io.KnownBytes.{Appends}
use Rattle.council_core.specs.Sequential.{Reply}
use Rattle.council_core.specs.declared.refusals.Refusal.TheVariants as refusal
use Rattle.board_text.specs.Lines.{LineBytes, audit_line, reader_line, reply_line}
use Rattle.board_text.specs.Output.{AppendsFront, IsBroken, fault_of}
use Rattle.board_text.specs.OutputStates.{OutputState}
use Rattle.board_text.specs.Streams.{WriteFailed}
use Rattle.recording_io.specs.Tapes.{WriterRecord}
use Rattle.board_text.specs.Text.{Run, fault_at, output, printed_run, stopped_run, text_of}
use Rattle.board_text.specs.declared.faults.Fault.{Fault}
use Rattle.board_text.specs.declared.stops.Stop.{Stop}
use Rattle.board_text.specs.declared.stops.Stop.TheVariants as stop
use Rattle.board_serve.specs.Outcomes.{IsServed, ServedLegalRecords, reported_by}
use Rattle.board_serve.specs.Plans.{Planned}
use Rattle.board_serve.specs.Work.{StopsAll}
use Rattle.board_serve.specs.declared.serving.Served.{Served}

-- the lines with the number of readings, from this reader number on
abbrev pub count_lines : ℕ → List ℕ → List LineBytes
count_lines reader [] = []
count_lines reader (count ∷ counts) = reader_line reader count ∷ count_lines (reader + 1) counts

-- the lines of the writer's replies, then the number of readings of each reader
abbrev pub lines_of_work : List Reply → List ℕ → List LineBytes
lines_of_work replies counts = map reply_line replies ++ count_lines 1 counts

-- the lines written before the result of the audit
abbrev pub work_lines : Planned → List LineBytes
work_lines p = lines_of_work (reported_by p) (map length p.records.asked)

-- the result of the audit: its line, or a fault
abbrev pub audited_run : Bool → Run
audited_run true = printed_run (audit_line ∷ [])
audited_run false = stopped_run (fault_at refusal.Mismatch 0)

-- the errors that end a report early: WriteFault after a write of this output failed, or a mismatch
abbrev pub IsReportStop : OutputState → Stop → Type 0
IsReportStop s e = ((e ≡ stop.WriteFault) × (s.failed ≡ true)) ⊎ (e ≡ stop.Fault (fault_at refusal.Mismatch 0))

-- the results match the plan, but the readings are not legal records
abbrev pub Differs : Planned → Type 0
Differs p = (s : Served) × IsServed p s × (ServedLegalRecords p s → ⊥)

-- a fault of the limits or of the input ends a run before any line
abbrev pub EndsBeforeThreads : Fault → List LineBytes → Fault → Type 0
EndsBeforeThreads g front f = (front ≡ []) × (f ≡ g)

-- out of memory or a failed read ends a run before any line
abbrev pub EndsBroken : List LineBytes → Fault → Type 0
EndsBroken front f = (front ≡ []) × IsBroken f

-- what stopped the threads ends a run before any line: out of memory, or else a closed gate
abbrev pub EndsHeldUp : Planned → List LineBytes → Fault → Type 0
EndsHeldUp p front f =
    (front ≡ []) × ((e : Stop) × StopsAll p.start p.records.orders e × (fault_of e ≡ Some f))

-- a mismatch of readings that differ ends a run after the lines of the work
abbrev pub EndsMismatched : Planned → List LineBytes → Fault → Type 0
EndsMismatched p front f = (front ≡ work_lines p) × (f ≡ fault_at refusal.Mismatch 0) × Differs p

-- a run of this plan, or with this fault before it, may print these lines and end in this fault, or in none
abbrev pub EndsAfter : Result Planned Fault → List LineBytes → Option Fault → Type 0
EndsAfter (Err g) front None = ⊥
EndsAfter (Err g) front (Some f) = EndsBeforeThreads g front f ⊎ EndsBroken front f
EndsAfter (Ok p) front None = front ≡ work_lines p ++ audit_line ∷ []
EndsAfter (Ok p) front (Some f) = EndsBroken front f ⊎ EndsHeldUp p front f ⊎ EndsMismatched p front f

-- a run that a plan, or the fault before it, allows
abbrev pub IsServeRun : Result Planned Fault → Run → Type 0
IsServeRun spec run = EndsAfter spec run.lines run.end

-- `serve` has written its whole text, and the result is that of the plan
abbrev pub WritesAllOfServe : Option (List ℕ) → Option (List ℕ) → Served → Result Planned Fault → Type 0
WritesAllOfServe old new s spec =
    (p : Planned) × (spec ≡ Ok p) × IsServed p s × ServedLegalRecords p s
    × Appends old new (text_of (work_lines p ++ audit_line ∷ []))

-- before the line of a fault, `serve` has written the lines of a run that ends in it, or a prefix of the output of a
-- run if the fault has no line
abbrev pub WritesServeUntilStop : Option (List ℕ) → Option (List ℕ) → Option Fault → Run → Type 0
WritesServeUntilStop old new None run = AppendsFront old new (output run)
WritesServeUntilStop old new (Some f) run = (run.end ≡ Some f) × Appends old new (text_of run.lines)

-- what `serve` has written before the line of a fault
abbrev pub WritesServeRun : Option (List ℕ) → Option (List ℕ) → Result Served Stop → Result Planned Fault → Type 0
WritesServeRun old new (Ok s) spec = WritesAllOfServe old new s spec
WritesServeRun old new (Err e) spec = (run : Run) × IsServeRun spec run × WritesServeUntilStop old new (fault_of e) run

-- what `serve` has written, by its result. `Failed` is the fact that a write failed
abbrev pub WritesServeOutput : Type 0 → Option (List ℕ) → Option (List ℕ) → Result Served Fault → Result Planned Fault
    → Type 0
WritesServeOutput Failed old new (Ok s) spec = WritesAllOfServe old new s spec
WritesServeOutput Failed old new (Err f) spec = (run : Run) × IsServeRun spec run
    × (((run.end ≡ Some f) × Appends old new (output run))
    ⊎ ((f ≡ fault_at refusal.WriteFault 0) × Failed × AppendsFront old new (output run)))

-- what `serve` has written to a recorder
abbrev pub RecordsServeOutput : WriterRecord → WriterRecord → Result Served Fault → Result Planned Fault → Type 0
RecordsServeOutput old new result spec =
    WritesServeOutput (WriteFailed old.calls new.calls) (Some old.bytes) (Some new.bytes) result spec
