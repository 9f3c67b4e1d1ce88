-- An error blames a write only where one failed.
use Rattle.std.proofs.Common.{◌≡◌, ◌⊎◌, inl, inr, true, [], Result, Err, append-nil, refl, subst, sym, ◌∙◌}
use Rattle.std.specs.Prelude.{IsErrOf}
use Rattle.recording_io.specs.Tapes.{ReaderRecord, OfInput, given_since}
use Rattle.board_text.specs.Output.{StopsReading, IsMemoryOrWrite}
use Rattle.board_text.specs.OutputStates.{OutputState}
use Rattle.board_text.specs.Text.{Started, started_of}
use Rattle.board_text.specs.declared.bounds.Limits.{Limits}
use Rattle.board_text.specs.declared.faults.Fault.{Fault}
use Rattle.board_text.specs.declared.stops.Stop.{Stop}
use Rattle.board_text.specs.declared.stops.Stop.TheVariants as stop

-- where the error is WriteFault, a write of this output has failed
abbrev pub BlamesWrite : Type 0 → OutputState → Stop → Type 0
BlamesWrite A s e = IsErrOf {T = A} (Err e) stop.WriteFault → s.failed ≡ true

-- the error `e`, passed on as `d`
module _ {A : Type 0} (s : OutputState) (e d : Stop) (same : d ≡ e) where
  pub blames-memory : e ≡ stop.OutOfMemory → BlamesWrite A s d
  blames-memory memory = λ write. cc (same, memory, write)

  pub blames-read : (e ≡ stop.OutOfMemory) ⊎ (e ≡ stop.ReadFault) → BlamesWrite A s d
  blames-read (inl memory) = blames-memory memory
  blames-read (inr read) = λ write. cc (same, read, write)

  pub blames-write : IsMemoryOrWrite s e → BlamesWrite A s d
  blames-write (inl memory) = blames-memory memory
  blames-write (inr failed) = λ write. failed.1

  pub blames-start : (spec : Result Started Fault) → StopsReading e spec → BlamesWrite A s d
  blames-start spec p = λ write. let is : d ≡ stop.WriteFault = cc write in absurd (subst (λ (x : Stop). StopsReading x spec) (sym same ∙ is) p)

  pub blames-input : (from to : ReaderRecord) (lim : Limits) → OfInput from to (λ bytes. StopsReading e (started_of lim bytes)) → BlamesWrite A s d
  blames-input from to lim p =
      let bytes = given_since from to in
      blames-start (started_of lim bytes) (p bytes (inr ([], sym (append-nil bytes), λ is_end. refl)))

-- a refusal of a record
pub blames-record : {A : Type 0} (s : OutputState) (d : Stop) (f : Fault) → d ≡ stop.Fault f → BlamesWrite A s d
blames-record s d f same = λ write. cc (same, write)
