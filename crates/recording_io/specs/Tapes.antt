-- What contracts can state of a recording writer and a recording reader.
use Rattle.std.specs.Prelude.{◌≡◌, ℕ, ◌+◌, ◌-◌, ◌≤◌, Bool, true, false, ◌&&◌, nat_eq, nat_lt, ◌⊎◌, List}
use Rattle.std.specs.Prelude.{[], ◌++◌, length, take, drop}
use Rattle.std.specs.Prelude.{if◌then◌else◌, Option, Some, Result, Ok, Err, MatchResult, ◌≢◌}
use Rattle.std.specs.IoError.{error_kind}
use Rattle.std.specs.declared.io.Error.{Error}
use Rattle.std.specs.declared.io.ErrorKind.TheVariants.{Interrupted}
use Rattle.std.specs.Io.KnownBytes.{Consumes, IsAtEnd}

-- whether moving `count` bytes reports the end: no byte moved although there was room
abbrev pub is_last : List ℕ → ℕ → Bool
is_last room count = nat_eq count 0 && nat_lt 0 (length room)

-- the calls of a stream since it was wrapped: how many were made, how many were interrupted, and how many of the others
-- moved no byte
pub record Calls : Type 0 where
  pub made : ℕ
  pub empty : ℕ
  pub interrupted : ℕ

abbrev pub no_calls : Calls
no_calls = record { made = 0; empty = 0; interrupted = 0 }

-- the calls after one more, which moved `count` bytes, or was interrupted
abbrev pub after_call : Calls → ℕ → Bool → Calls
after_call calls count interrupted = record {
  made = calls.made + 1;
  empty = calls.empty + (if interrupted then 0 else (if nat_eq count 0 then 1 else 0));
  interrupted = calls.interrupted + (if interrupted then 1 else 0);
}

-- between two moments a stream had no more calls of each kind than these
pub record CallsWithin (most from to : Calls) : Type 0 where
  pub made : to.made ≤ from.made + most.made
  pub empty : to.empty ≤ from.empty + most.empty
  pub interrupted : to.interrupted ≤ from.interrupted + most.interrupted

-- the calls before and after one with this result
abbrev pub CountsCall : Calls → Calls → Result ℕ Error → Type 0
CountsCall before after (Ok n) = after ≡ after_call before n false
CountsCall before after (Err e) = (error_kind e ≡ Interrupted → after ≡ after_call before 0 true)
    × (error_kind e ≢ Interrupted → after ≡ after_call before 0 false)

-- the state of a recording writer: the ghost name of the borrowed writer, the contents of that writer when it was
-- wrapped and its contents now, where known; and, since then, the bytes that its writes accepted, and its writes
pub record WriterRecord : Type 0 where
  pub writer : ℕ
  pub at_start : Option (List ℕ)
  pub contents : Option (List ℕ)
  pub bytes : List ℕ
  pub calls : Calls

-- the state of a recording reader: the bytes that its reader has left, where known; and, since it was wrapped, the
-- bytes that its reads returned, whether the last read reported the end, and its reads
pub record ReaderRecord : Type 0 where
  pub left : Option (List ℕ)
  pub bytes : List ℕ
  pub ended : Bool
  pub calls : Calls

-- one write: `Ok` records the accepted bytes, `Err` records none
abbrev pub RecordsWrite : WriterRecord → WriterRecord → Result ℕ Error → List ℕ → Type 0
RecordsWrite old new r buf = CountsCall old.calls new.calls r
    × MatchResult r (λ n. new.bytes ≡ old.bytes ++ take n buf) (λ _. new.bytes ≡ old.bytes)

-- one read: `Ok` records the bytes returned and whether they report the end, `Err` records none
abbrev pub RecordsRead : ReaderRecord → ReaderRecord → Result ℕ Error → List ℕ → Type 0
RecordsRead old new r buf = CountsCall old.calls new.calls r
    × MatchResult r
    (λ n. (new.bytes ≡ old.bytes ++ take n buf) × (new.ended ≡ is_last buf n))
    (λ _. new.bytes ≡ old.bytes)

-- both states are of one recording writer
abbrev pub IsSameWriter : WriterRecord → WriterRecord → Type 0
IsSameWriter from to = (to.writer ≡ from.writer) × (to.at_start ≡ from.at_start)

-- the number of bytes that a writer accepted between two states
abbrev pub count_written : WriterRecord → WriterRecord → ℕ
count_written from to = length to.bytes - length from.bytes

-- the reader returned exactly these bytes between two states
pub record WasGiven (from to : ReaderRecord) (given : List ℕ) : Type 0 where
  pub bytes : to.bytes ≡ from.bytes ++ given
  pub left : Consumes from.left to.left given

-- the reader has reported its end
abbrev pub HasEnded : ReaderRecord → Type 0
HasEnded to = (to.ended ≡ true) × IsAtEnd to.left

-- the bytes that a reader returned between two states
abbrev pub given_since : ReaderRecord → ReaderRecord → List ℕ
given_since from to = drop (length from.bytes) to.bytes

-- these are possibly the bytes of an input that was read: they are the reader's known contents, or
-- they begin with the bytes that it returned, and end there if it reported its end
abbrev pub IsInput : ReaderRecord → ReaderRecord → List ℕ → Type 0
IsInput from to bytes = (from.left ≡ Some bytes)
    ⊎ ((rest : List ℕ) × (bytes ≡ given_since from to ++ rest) × (to.ended ≡ true → rest ≡ []))

-- P holds of every possible input
abbrev pub OfInput : ReaderRecord → ReaderRecord → (List ℕ → Type 0) → Type 0
OfInput from to P = (bytes : List ℕ) → IsInput from to bytes → P bytes
