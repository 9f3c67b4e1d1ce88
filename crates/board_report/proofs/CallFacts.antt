-- Facts of a result, and of the reads of a run.
use Rattle.std.proofs.Common.{◌≡◌, inl, inr, Result, Ok, Err, subst, sym, arith}
use Rattle.std.specs.Prelude.{IfOk}
use Rattle.recording_io.specs.Tapes.{Calls, CallsWithin}
use Rattle.board_text.specs.Streams.{IsOfDevice, RunsWithin, most_reads, one_more}
use Rattle.board_text.specs.declared.faults.Fault.{Fault}

module _ {A E : Type 0} (r : Result A E) (x : A) (P : A → Type 0) (same : r ≡ Ok x) where
  pub if-ok : P x → IfOk r P
  if-ok p = subst (λ (z : Result A E). IfOk z P) (sym same) p

  pub of-ok : IfOk r P → P x
  of-ok p = subst (λ (z : Result A E). IfOk z P) same p

-- a run reads no more than one that was interrupted once more
pub more-reads : (from to : Calls) → CallsWithin most_reads from to → CallsWithin (one_more most_reads) from to
more-reads from to p = record { made = p.made; empty = p.empty; interrupted = omega (arith, p.interrupted) }

pub run-reads : (from to : Calls) (r : Result (Unit {0}) Fault) → RunsWithin IsOfDevice most_reads from to r → CallsWithin (one_more most_reads) from to
run-reads from to (Ok u) p = more-reads from to p
run-reads from to (Err f) (inl bound) = more-reads from to bound
run-reads from to (Err f) (inr (device, more)) = more
