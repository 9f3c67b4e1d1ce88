-- The start of an input, and the errors before the script.
use Rattle.std.proofs.Common.{◌≡◌, ◌<◌, ◌≤◌, ◌⊎◌, inl, inr, ℕ, true, false, List, length, IfErr, Result, Ok, Err, refl, ap}
use Rattle.std.proofs.lemmas.Bool.{le-leb, lt-leb}
use Rattle.csv.specs.Reading.{default_config, records, strip_bom}
use Rattle.recording_io.specs.Tapes.{ReaderRecord, OfInput}
use Rattle.council_core.specs.declared.refusals.Refusal.TheVariants as refusal
use Rattle.board_text.specs.Text.{started_of, started_after, fault_at, in_range, preamble_of}
use Rattle.board_text.specs.Output.{StopsReading}
use Rattle.board_text.specs.declared.bounds.Limits.{Limits}
use Rattle.board_text.specs.declared.stops.Stop.{Stop}
use Rattle.board_text.specs.declared.stops.Stop.TheVariants as stop

start-out_of_range : (lim : Limits) (bytes : List ℕ) → in_range lim ≡ false → started_of lim bytes ≡ Err (fault_at refusal.BadLimit 0)
unfolding started_of
start-out_of_range lim bytes e = rw e refl

start-too_long : (lim : Limits) (bytes : List ℕ) → in_range lim ≡ true → 4194304 < length bytes → started_of lim bytes ≡ Err (fault_at refusal.TooLong 0)
unfolding started_of
start-too_long lim bytes e h = rw (e, lt-leb _ _ h) refl

pub start-records : (lim : Limits) (bytes : List ℕ) → in_range lim ≡ true → length bytes ≤ 4194304 → started_of lim bytes ≡ started_after lim (preamble_of (records default_config (strip_bom bytes)))
unfolding started_of
start-records lim bytes e h = rw (e, le-leb _ _ h) refl

-- limits out of range
pub fails-by_limits : (from to : ReaderRecord) (d : Stop) (lim : Limits) → in_range lim ≡ false → d ≡ stop.Fault (fault_at refusal.BadLimit 0) → OfInput from to (λ bytes. StopsReading d (started_of lim bytes))
fails-by_limits from to d lim e s = λ bytes is. rw s (start-out_of_range lim bytes e)

read-fails : (bytes : List ℕ) (e : Stop) (lim : Limits) → in_range lim ≡ true
    → (e ≡ stop.OutOfMemory) ⊎ (e ≡ stop.ReadFault) ⊎ (e ≡ stop.Fault (fault_at refusal.TooLong 0))
    → (e ≡ stop.Fault (fault_at refusal.TooLong 0) → 4194304 < length bytes) → StopsReading e (started_of lim bytes)
read-fails bytes e lim fits (inl m) long = rw m tt
read-fails bytes e lim fits (inr (inl d)) long = rw d tt
read-fails bytes e lim fits (inr (inr t)) long = rw t (start-too_long lim bytes fits (long t))

-- the input could not be read
pub fails-input : {A : Type 0} (from to : ReaderRecord) (r : Result A Stop) (lim : Limits) → in_range lim ≡ true
    → IfErr r (λ e. (e ≡ stop.OutOfMemory) ⊎ (e ≡ stop.ReadFault) ⊎ (e ≡ stop.Fault (fault_at refusal.TooLong 0)))
    → (r ≡ Err (stop.Fault (fault_at refusal.TooLong 0)) → OfInput from to (λ bytes. 4194304 < length bytes))
    → IfErr r (λ e. OfInput from to (λ bytes. StopsReading e (started_of lim bytes)))
fails-input from to (Ok a) lim fits causes long = tt
fails-input from to (Err e) lim fits causes long = λ bytes is. read-fails bytes e lim fits causes (λ same. long (ap Err same) bytes is)
