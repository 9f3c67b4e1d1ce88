-- Bounds on the reads and the writes of a run.
use Rattle.std.specs.Prelude.{◌≡◌, ◌⊎◌, ℕ, ◌+◌, ◌<◌, Result, Ok, Err}
use Rattle.council_core.specs.declared.refusals.Refusal.TheVariants as refusal
use Rattle.board_text.specs.Text.{fault_at}
use Rattle.board_text.specs.declared.faults.Fault.{Fault}
use Rattle.board_text.specs.declared.input.TheConstants.{INTERRUPTIONS, READS}
use Rattle.board_text.specs.declared.stops.Stop.{Stop}
use Rattle.board_text.specs.declared.stops.Stop.TheVariants as stop
use Rattle.recording_io.specs.Tapes.{Calls, CallsWithin, WriterRecord, count_written}

-- the same bounds, with one interrupted call more
abbrev pub one_more : Calls → Calls
one_more most = record most { interrupted = most.interrupted + 1 }

-- the most reads of a run. At most one is empty: it reports the end of the input, or fails. Interrupted ones are
-- retried
abbrev pub most_reads : Calls
most_reads = record { made = READS; empty = 1; interrupted = INTERRUPTIONS }

-- the most writes for this number of bytes. Each accepts a byte, or is interrupted and retried, or is the last: it
-- accepts none, fails, or is interrupted once too often
abbrev pub most_writes : ℕ → Calls
most_writes bytes = record { made = bytes + INTERRUPTIONS + 1; empty = 1; interrupted = INTERRUPTIONS + 1 }

-- a writer was asked for no more writes than the bytes that it accepted allow
abbrev pub WritesWithin : WriterRecord → WriterRecord → Type 0
WritesWithin from to = CallsWithin (most_writes (count_written from to)) from.calls to.calls

-- a write failed for good: it accepted no byte and wasn't interrupted, or more writes were interrupted than are
-- retried
abbrev pub WriteFailed : Calls → Calls → Type 0
WriteFailed from to = (from.empty < to.empty) ⊎ (from.interrupted + INTERRUPTIONS < to.interrupted)

-- a read failed
abbrev pub IsReadFault : Stop → Type 0
IsReadFault e = e ≡ stop.ReadFault

-- a device failed: the input (ReadFault) or the output (WriteFault, which also replaces a fault
-- whose line can't be written)
abbrev pub IsOfDevice : Fault → Type 0
IsOfDevice f = (f ≡ fault_at refusal.ReadFault 0) ⊎ (f ≡ fault_at refusal.WriteFault 0)

-- the calls of a run are within these bounds; one interruption more occurred only if the call that it interrupted
-- failed for good, and the error tells of a failed device
abbrev pub RunsWithin : {A E : Type 0} → (E → Type 0) → Calls → Calls → Calls → Result A E → Type 0
RunsWithin Tells most from to (Ok _) = CallsWithin most from to
RunsWithin Tells most from to (Err e) = CallsWithin most from to ⊎ (Tells e × CallsWithin (one_more most) from to)

-- the most reads of an input that ends in this error: no read is empty but one that failed
abbrev pub most_reads_at : Stop → Calls
most_reads_at stop.ReadFault = one_more most_reads
most_reads_at stop.OutOfMemory = record most_reads { empty = 0 }
most_reads_at stop.WriteFault = record most_reads { empty = 0 }
most_reads_at (stop.Fault f) = record most_reads { empty = 0 }

abbrev pub most_reads_by : {A : Type 0} → Result A Stop → Calls
most_reads_by (Ok _) = most_reads
most_reads_by (Err e) = most_reads_at e
