-- All that a run has written, including the line of its fault.
use Rattle.std.specs.Prelude.{◌≡◌, ℕ, ◌⊎◌, List, [], ◌∷◌, ◌++◌, Option}
use Rattle.std.specs.Prelude.{Some, None, Result, Ok, Err}
use Rattle.std.specs.Io.KnownBytes.{Appends}
use Rattle.council_core.specs.declared.refusals.Refusal.TheVariants as refusal
use Rattle.board_text.specs.Lines.{LineBytes, fault_line}
use Rattle.board_text.specs.Text.{Run, fault_at, output, text_of}
use Rattle.board_text.specs.declared.faults.Fault.{Fault}
use Rattle.board_text.specs.Output.{AppendsFront, IsBroken, IsPrefixOf}
use Rattle.board_text.specs.Streams.{WriteFailed}
use Rattle.recording_io.specs.Tapes.{WriterRecord}

-- a prefix of the lines of a run, each whole, followed by the line of a fault
abbrev pub IsBrokenOff : Run → Fault → List ℕ → Type 0
IsBrokenOff run f text =
    (front : List LineBytes) × IsPrefixOf front run.lines × (text ≡ text_of (front ++ fault_line f ∷ []))

-- the text of a run whose writes all succeed
abbrev pub IsOutputOf : Run → List ℕ → Type 0
IsOutputOf run text = (text ≡ output run) ⊎ ((f : Fault) × IsBroken f × IsBrokenOff run f text)

-- after out of memory or a failed read, a run has written a prefix of its lines, each whole, then the line of that
-- fault, at 0
abbrev pub WritesSomeLines : Option (List ℕ) → Option (List ℕ) → Fault → Run → Type 0
WritesSomeLines old new f run = IsBroken f × ((text : List ℕ) × IsBrokenOff run f text × Appends old new text)

-- after a failed write, a run has written a prefix, in bytes, of the text that it would have written
abbrev pub WritesSomeBytes : Type 0 → Option (List ℕ) → Option (List ℕ) → Fault → Run → Type 0
WritesSomeBytes Failed old new f run = (f ≡ fault_at refusal.WriteFault 0) × Failed
    × ((text : List ℕ) × IsOutputOf run text × AppendsFront old new text)

-- at a fault of its own, a run has written its whole text, with the line of that fault
abbrev pub WritesAllLines : Option (List ℕ) → Option (List ℕ) → Fault → Run → Type 0
WritesAllLines old new f run = (run.end ≡ Some f) × Appends old new (output run)

-- what a run has written that ends in a fault
abbrev pub WritesUntilFault : Type 0 → Option (List ℕ) → Option (List ℕ) → Fault → Run → Type 0
WritesUntilFault Failed old new f run =
    WritesAllLines old new f run ⊎ WritesSomeLines old new f run ⊎ WritesSomeBytes Failed old new f run

-- what a run has written, by its result: its whole text, or its text until a fault. `Failed` is the fact that a write
-- failed, and `⊤` where the writer isn't recorded
abbrev pub WritesOutput : {A : Type 0} → Type 0 → Option (List ℕ) → Option (List ℕ) → Result A Fault → Run → Type 0
WritesOutput Failed old new (Ok _) run = (run.end ≡ None) × Appends old new (output run)
WritesOutput Failed old new (Err f) run = WritesUntilFault Failed old new f run

-- what a run has written to a recorder
abbrev pub RecordsOutput : {A : Type 0} → WriterRecord → WriterRecord → Result A Fault → Run → Type 0
RecordsOutput old new result run =
    WritesOutput (WriteFailed old.calls new.calls) (Some old.bytes) (Some new.bytes) result run
