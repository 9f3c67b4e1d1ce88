-- The calls of a run, by those that read its input.
use Rattle.std.proofs.Common.{◌≡◌, inl, inr, Option, Some, None, Result, Ok, Err, refl, arith}
use Rattle.recording_io.specs.Tapes.{Calls, CallsWithin}
use Rattle.board_text.specs.Streams.{IsOfDevice, IsReadFault, RunsWithin, most_reads, most_reads_at, most_reads_by}
use Rattle.board_text.specs.Output.{EndsRun, EndsStopped, fault_of}
use Rattle.board_text.specs.OutputStates.{OutputState}
use Rattle.board_text.specs.declared.faults.Fault.{Fault}
use Rattle.board_text.specs.declared.stops.Stop.{Stop}
use Rattle.board_text.specs.declared.stops.Stop.TheVariants as stop

-- what is returned after a fault is no value
no-value : {A : Type 0} (a b : OutputState) (f : Option Fault) (x : A) → EndsStopped a b f (Ok x) → ⊥
no-value a b None x ends = ends
no-value a b (Some f) x ends = ends

module _ (from to : Calls) where
  -- an input that was read, however the run goes on
  pub reads-on : {A B E : Type 0} (Tells : E → Type 0) (a : A) (r : Result B E) → CallsWithin (most_reads_by (Ok a)) from to → RunsWithin Tells most_reads from to r
  reads-on Tells a (Ok b) p = p
  reads-on Tells a (Err e) p = inl p

  fewer : CallsWithin (record most_reads { empty = 0 }) from to → CallsWithin most_reads from to
  fewer p = record { made = p.made; empty = omega (arith, p.empty); interrupted = p.interrupted }

  -- one that could not be read
  reads-failed : (e : Stop) → CallsWithin (most_reads_at e) from to → RunsWithin {A = Unit {0}} IsReadFault most_reads from to (Err e)
  reads-failed stop.ReadFault p = inr (refl, p)
  reads-failed stop.OutOfMemory p = inl (fewer p)
  reads-failed stop.WriteFault p = inl (fewer p)
  reads-failed (stop.Fault f) p = inl (fewer p)

  -- the same error, passed on
  pub reads-passed : (e d : Stop) → d ≡ e → CallsWithin (most_reads_at e) from to → RunsWithin {A = Unit {0}} IsReadFault most_reads from to (Err d)
  reads-passed e d same p = rw same (reads-failed e p)

  pub run-passed : {E : Type 0} (Tells : E → Type 0) (e d : E) → d ≡ e → RunsWithin {A = Unit {0}} Tells most_reads from to (Err e) → RunsWithin {A = Unit {0}} Tells most_reads from to (Err d)
  run-passed Tells e d same p = rw same p

  module _ (A : Type 0) (a b : OutputState) where
    -- a failed read is reported as such, or as a failed write
    reported : (e : Stop) (g : Fault) → EndsStopped {A = A} a b (fault_of e) (Err g) → IsReadFault e → IsOfDevice g
    reported stop.ReadFault g (inl ends) failed = inl ends.0
    reported stop.ReadFault g (inr ends) failed = inr ends.0
    reported stop.OutOfMemory g ends failed = cc failed
    reported stop.WriteFault g ends failed = cc failed
    reported (stop.Fault f) g ends failed = cc failed

    -- a run that ended
    pub reads-ended : (carried : Result A Stop) (r : Result A Fault) → EndsRun a b carried r → RunsWithin IsReadFault most_reads from to carried → RunsWithin IsOfDevice most_reads from to r
    reads-ended (Ok x) r ends p = rw ends.0 p
    reads-ended (Err e) (Ok x) ends p = absurd (no-value a b (fault_of e) x ends)
    reads-ended (Err e) (Err g) ends (inl p) = inl p
    reads-ended (Err e) (Err g) ends (inr (failed, p)) = inr (reported e g ends failed, p)
