-- The state of an `Output` in contracts.
use Rattle.std.specs.Prelude.{◌≡◌, ℕ, ◌+◌, ◌≤◌, Bool, true, false, List, Option, Result, Ok, Err, length}
use Rattle.recording_io.specs.Tapes.{Calls, CallsWithin, IsSameWriter, WriterRecord, count_written}
use Rattle.board_text.specs.Streams.{WriteFailed}

-- an output: the ghost name of the writer that it borrows; what that writer had recorded when the output was made, and
-- has now; its contents; how many interrupted writes were retried; and whether a write has failed
pub record OutputState : Type 0 where
  pub writer : ℕ
  pub start : WriterRecord
  pub now : WriterRecord
  pub contents : Option (List ℕ)
  pub retried : ℕ
  pub failed : Bool

-- two states of one output: the writer and its record at the start are the same, and no fewer interruptions have been
-- retried in the new state
abbrev pub IsSameOutput : OutputState → OutputState → Type 0
IsSameOutput old new =
    (new.writer ≡ old.writer) × (new.start ≡ old.start) × (old.retried ≤ new.retried)

-- the most writes for these numbers of bytes and retries; the last write may have failed
abbrev pub writes_so_far : ℕ → ℕ → Bool → Calls
writes_so_far bytes retried false = record { made = bytes + retried; empty = 0; interrupted = retried }
writes_so_far bytes retried true = record { made = bytes + retried + 1; empty = 1; interrupted = retried + 1 }

-- a writer since an output was made over it: the same one, with no more calls than its bytes and retries allow, none
-- forgotten, and one that failed for good if a write has failed
pub record IsWrittenBy (start now : WriterRecord) (retried : ℕ) (failed : Bool) : Type 0 where
  pub same : IsSameWriter start now
  pub grown : length start.bytes ≤ length now.bytes
  pub calls : CallsWithin (writes_so_far (count_written start now) retried failed) start.calls now.calls
  pub empty_grown : start.calls.empty ≤ now.calls.empty
  pub retries : start.calls.interrupted + retried ≤ now.calls.interrupted
  pub failure : failed ≡ true → WriteFailed start.calls now.calls

-- at most `count` writes, and one more for each interruption that was retried
abbrev pub CallsAtMost : OutputState → OutputState → ℕ → Type 0
CallsAtMost old new count =
    new.now.calls.made + old.retried ≤ old.now.calls.made + count + new.retried

-- the number of writes that accepted no byte
abbrev pub calls_without_bytes : OutputState → ℕ
calls_without_bytes s = s.now.calls.empty + s.now.calls.interrupted

-- one write accepted no byte and was not retried: the writer failed, accepted nothing, or was
-- interrupted after the last retry
abbrev pub HasFailed : OutputState → OutputState → Type 0
HasFailed old new = calls_without_bytes new + old.retried ≡ calls_without_bytes old + 1 + new.retried

-- one write failed, or one had failed before, and there is no other
abbrev pub FailsOnce : Bool → OutputState → OutputState → Type 0
FailsOnce false old new = HasFailed old new
FailsOnce true old new = new ≡ old

-- each write accepted a byte, except interrupted writes that were retried and, after an error, the
-- one that failed; after a failed write there is no other
abbrev pub EachWriteAccepts : {A E : Type 0} → OutputState → OutputState → Result A E → Type 0
EachWriteAccepts old new (Ok _) = calls_without_bytes new + old.retried ≡ calls_without_bytes old + new.retried
EachWriteAccepts old new (Err _) = FailsOnce old.failed old new
