-- The course of a whole input.
use Rattle.std.proofs.Common.{◌≡◌, ◌≤◌, ℕ, true, List, [], length, Option, Result, refl, sym, subst}
use Rattle.std.proofs.KnownBytes.{Appends-nil}
use Rattle.csv.specs.Reading.{default_config, records, strip_bom}
use Rattle.recording_io.specs.Tapes.{ReaderRecord, OfInput}
use Rattle.board_text.specs.Lines.{LineBytes}
use Rattle.board_text.specs.Text.{Started, started_of, started_after, in_range, preamble_of}
use Rattle.board_text.specs.Scripts.{Course, started_course, run_in}
use Rattle.board_text.specs.Output.{AppendsLines, StopsReading, WritesUntilStop}
use Rattle.board_text.specs.declared.bounds.Limits.{Limits}
use Rattle.board_text.specs.declared.faults.Fault.{Fault}
use Rattle.board_text.specs.declared.stops.Stop.{Stop}
use Rattle.board_text.specs.declared.stops.Stop.TheVariants as stop
use Rattle.board_text.proofs.RunFacts.{front-none}
use Rattle.board_text.proofs.StartingFacts.{start-records}

nothing-written : (a : Option (List ℕ)) (lines : List LineBytes) → AppendsLines a a lines
nothing-written a lines = ([], front-none lines, Appends-nil a)

fails-stop : (a : Option (List ℕ)) (e : Stop) {S : Type 0} (interpret : Started → Course S) (spec : Result Started Fault) → StopsReading e spec → WritesUntilStop a a e (run_in (started_course interpret spec))
fails-stop a stop.OutOfMemory interpret spec p = nothing-written a _
fails-stop a stop.ReadFault interpret spec p = nothing-written a _
fails-stop a stop.WriteFault interpret spec p = absurd p
fails-stop a (stop.Fault f) interpret spec p = rw p (refl, Appends-nil a)

-- where nothing came of the input, nothing was written
pub writes-failed : (a : Option (List ℕ)) (e d : Stop) {S : Type 0} (interpret : Started → Course S) (spec : Result Started Fault) → d ≡ e → StopsReading e spec → WritesUntilStop a a d (run_in (started_course interpret spec))
writes-failed a e d interpret spec same p = let P : Stop → Type 0 = λ s. WritesUntilStop a a s (run_in (started_course interpret spec)) in subst P (sym same) (fails-stop a e interpret spec p)

-- the same of an input
pub writes-failed_input : (from to : ReaderRecord) (a : Option (List ℕ)) (e d : Stop) {S : Type 0} (lim : Limits) (interpret : Started → Course S) → d ≡ e
    → OfInput from to (λ bytes. StopsReading e (started_of lim bytes)) → OfInput from to (λ bytes. WritesUntilStop a a d (run_in (started_course interpret (started_of lim bytes))))
writes-failed_input from to a e d lim interpret same p = λ bytes is. writes-failed a e d interpret (started_of lim bytes) same (p bytes is)

-- a text that was read: an input that is not too long, where the limits are in range
pub record TextRead (lim : Limits) (text : List ℕ) : Type 0 where
  pub input : List ℕ
  pub fits : in_range lim ≡ true
  pub same : text ≡ input
  pub short : length input ≤ 4194304

-- the text that was read is the input
pub start-input : (from to : ReaderRecord) (lim : Limits) (text : List ℕ) (read : TextRead lim text) → OfInput from to (λ bytes. read.input ≡ bytes)
    → OfInput from to (λ bytes. started_of lim bytes ≡ started_after lim (preamble_of (records default_config (strip_bom text))))
start-input from to lim text read whole = λ bytes is. rw (← whole bytes is, read.same) (start-records lim read.input read.fits read.short)
